-- What is promised of the calendar (02, a): the first working day after a date, Easter, and which days are closed.
use Rattle.std.specs.Prelude.{ℕ, zero, suc, ◌+◌, ◌*◌, ◌≤◌, ◌<◌, true, false, List, [], ◌∷◌, map, ◌≡◌, replicate}
use Rattle.paper.specs.Units.{Date, Year, Day}
use Rattle.paper.specs.Lists.{joined_up}
use Rattle.paper.specs.Days.{day, easter, is_open, working_after}

-- The first working day after a day: an open one after it, at most five days off, and no day between the two is open
pub record Working (d w : Day) : Type 0 where
  pub opens : is_open w ≡ true
  pub after : d < w
  pub within : w ≤ d + 5
  pub earliest : (x : Day) → d < x → x < w → is_open x ≡ false

-- The dates of years from a given one on, by month and day: 423 is 23 April
abbrev dates_from : Year → List ℕ → List Date
dates_from y [] = []
dates_from y (mmdd ∷ rest) = (10_000 * y + mmdd) ∷ dates_from (suc y) rest

-- The Easter Sundays of 2000 to 2399, ten years a line
abbrev pub sundays : List Date
sundays =
    dates_from 2000
    (joined_up
    ((423 ∷ 415 ∷ 331 ∷ 420 ∷ 411 ∷ 327 ∷ 416 ∷ 408 ∷ 323 ∷ 412 ∷ [])
    ∷ (404 ∷ 424 ∷ 408 ∷ 331 ∷ 420 ∷ 405 ∷ 327 ∷ 416 ∷ 401 ∷ 421 ∷ [])
    ∷ (412 ∷ 404 ∷ 417 ∷ 409 ∷ 331 ∷ 420 ∷ 405 ∷ 328 ∷ 416 ∷ 401 ∷ [])
    ∷ (421 ∷ 413 ∷ 328 ∷ 417 ∷ 409 ∷ 325 ∷ 413 ∷ 405 ∷ 425 ∷ 410 ∷ [])
    ∷ (401 ∷ 421 ∷ 406 ∷ 329 ∷ 417 ∷ 409 ∷ 325 ∷ 414 ∷ 405 ∷ 418 ∷ [])
    ∷ (410 ∷ 402 ∷ 421 ∷ 406 ∷ 329 ∷ 418 ∷ 402 ∷ 422 ∷ 414 ∷ 330 ∷ [])
    ∷ (418 ∷ 410 ∷ 326 ∷ 415 ∷ 406 ∷ 329 ∷ 411 ∷ 403 ∷ 422 ∷ 414 ∷ [])
    ∷ (330 ∷ 419 ∷ 410 ∷ 326 ∷ 415 ∷ 407 ∷ 419 ∷ 411 ∷ 403 ∷ 423 ∷ [])
    ∷ (407 ∷ 330 ∷ 419 ∷ 404 ∷ 326 ∷ 415 ∷ 331 ∷ 420 ∷ 411 ∷ 403 ∷ [])
    ∷ (416 ∷ 408 ∷ 330 ∷ 412 ∷ 404 ∷ 424 ∷ 415 ∷ 331 ∷ 420 ∷ 412 ∷ [])
    ∷ (328 ∷ 417 ∷ 409 ∷ 325 ∷ 413 ∷ 405 ∷ 418 ∷ 410 ∷ 401 ∷ 421 ∷ [])
    ∷ (406 ∷ 329 ∷ 417 ∷ 402 ∷ 422 ∷ 414 ∷ 329 ∷ 418 ∷ 410 ∷ 326 ∷ [])
    ∷ (414 ∷ 406 ∷ 329 ∷ 411 ∷ 402 ∷ 422 ∷ 414 ∷ 330 ∷ 418 ∷ 410 ∷ [])
    ∷ (326 ∷ 415 ∷ 406 ∷ 419 ∷ 411 ∷ 403 ∷ 422 ∷ 407 ∷ 330 ∷ 419 ∷ [])
    ∷ (403 ∷ 326 ∷ 415 ∷ 331 ∷ 419 ∷ 411 ∷ 403 ∷ 416 ∷ 407 ∷ 330 ∷ [])
    ∷ (412 ∷ 404 ∷ 423 ∷ 415 ∷ 331 ∷ 420 ∷ 411 ∷ 327 ∷ 416 ∷ 408 ∷ [])
    ∷ (323 ∷ 412 ∷ 404 ∷ 424 ∷ 408 ∷ 331 ∷ 420 ∷ 405 ∷ 327 ∷ 416 ∷ [])
    ∷ (401 ∷ 421 ∷ 412 ∷ 404 ∷ 417 ∷ 409 ∷ 331 ∷ 420 ∷ 405 ∷ 328 ∷ [])
    ∷ (416 ∷ 401 ∷ 421 ∷ 413 ∷ 328 ∷ 417 ∷ 409 ∷ 325 ∷ 413 ∷ 405 ∷ [])
    ∷ (425 ∷ 410 ∷ 401 ∷ 421 ∷ 406 ∷ 329 ∷ 417 ∷ 409 ∷ 325 ∷ 414 ∷ [])
    ∷ (406 ∷ 419 ∷ 411 ∷ 403 ∷ 422 ∷ 407 ∷ 330 ∷ 419 ∷ 403 ∷ 326 ∷ [])
    ∷ (415 ∷ 331 ∷ 419 ∷ 411 ∷ 327 ∷ 416 ∷ 407 ∷ 330 ∷ 412 ∷ 404 ∷ [])
    ∷ (423 ∷ 415 ∷ 331 ∷ 420 ∷ 411 ∷ 327 ∷ 416 ∷ 408 ∷ 323 ∷ 412 ∷ [])
    ∷ (404 ∷ 424 ∷ 408 ∷ 331 ∷ 420 ∷ 405 ∷ 327 ∷ 416 ∷ 401 ∷ 421 ∷ [])
    ∷ (412 ∷ 404 ∷ 417 ∷ 409 ∷ 331 ∷ 413 ∷ 405 ∷ 328 ∷ 416 ∷ 401 ∷ [])
    ∷ (421 ∷ 413 ∷ 328 ∷ 417 ∷ 409 ∷ 325 ∷ 413 ∷ 405 ∷ 425 ∷ 410 ∷ [])
    ∷ (401 ∷ 421 ∷ 406 ∷ 329 ∷ 417 ∷ 402 ∷ 325 ∷ 414 ∷ 405 ∷ 418 ∷ [])
    ∷ (410 ∷ 402 ∷ 421 ∷ 406 ∷ 329 ∷ 418 ∷ 402 ∷ 422 ∷ 414 ∷ 330 ∷ [])
    ∷ (418 ∷ 410 ∷ 326 ∷ 415 ∷ 406 ∷ 322 ∷ 411 ∷ 403 ∷ 422 ∷ 407 ∷ [])
    ∷ (330 ∷ 419 ∷ 410 ∷ 326 ∷ 415 ∷ 407 ∷ 419 ∷ 411 ∷ 403 ∷ 416 ∷ [])
    ∷ (408 ∷ 331 ∷ 420 ∷ 405 ∷ 327 ∷ 416 ∷ 401 ∷ 421 ∷ 412 ∷ 328 ∷ [])
    ∷ (417 ∷ 409 ∷ 331 ∷ 413 ∷ 405 ∷ 328 ∷ 416 ∷ 401 ∷ 421 ∷ 406 ∷ [])
    ∷ (328 ∷ 417 ∷ 409 ∷ 325 ∷ 413 ∷ 405 ∷ 425 ∷ 410 ∷ 401 ∷ 421 ∷ [])
    ∷ (406 ∷ 329 ∷ 417 ∷ 402 ∷ 325 ∷ 414 ∷ 405 ∷ 418 ∷ 410 ∷ 326 ∷ [])
    ∷ (414 ∷ 406 ∷ 329 ∷ 411 ∷ 402 ∷ 422 ∷ 414 ∷ 330 ∷ 418 ∷ 410 ∷ [])
    ∷ (326 ∷ 415 ∷ 406 ∷ 322 ∷ 411 ∷ 403 ∷ 422 ∷ 407 ∷ 330 ∷ 419 ∷ [])
    ∷ (403 ∷ 326 ∷ 415 ∷ 331 ∷ 419 ∷ 411 ∷ 403 ∷ 416 ∷ 407 ∷ 330 ∷ [])
    ∷ (419 ∷ 404 ∷ 326 ∷ 415 ∷ 331 ∷ 420 ∷ 411 ∷ 327 ∷ 416 ∷ 408 ∷ [])
    ∷ (323 ∷ 412 ∷ 404 ∷ 424 ∷ 408 ∷ 331 ∷ 420 ∷ 405 ∷ 327 ∷ 416 ∷ [])
    ∷ (408 ∷ 324 ∷ 412 ∷ 404 ∷ 417 ∷ 409 ∷ 331 ∷ 420 ∷ 405 ∷ 328 ∷ [])
    ∷ []))

-- Easter by the reckoning, of so many years from a given one on
abbrev easters_from : ℕ → Year → List Day
easters_from zero y = []
easters_from (suc years) y = easter y ∷ easters_from years (suc y)

-- The table
abbrev pub Calendar : Type 0
Calendar =
    (easters_from 400 2000 ≡ map day sundays)
    -- Shut on weekdays: 1 January, Good Friday, Easter Monday, 1 May, 25 and 26 December
    × (map (λ date. is_open (day date)) (20_190_101 ∷ 20_190_419 ∷ 20_190_422 ∷ 20_190_501 ∷ 20_191_225 ∷ 20_191_226 ∷ []) ≡ replicate 6 false)
    -- Open: the weekdays beside them
    × (map (λ date. is_open (day date)) (20_181_231 ∷ 20_190_102 ∷ 20_190_418 ∷ 20_190_423 ∷ 20_190_430 ∷ 20_190_502 ∷ 20_191_224 ∷ 20_191_227 ∷ []) ≡ replicate 8 true)
    -- Open: the Mondays after closing days on a weekend, 1 January, 1 May, 25 and 26 December
    × (map (λ date. is_open (day date)) (20_220_103 ∷ 20_220_502 ∷ 20_211_227 ∷ 20_201_228 ∷ []) ≡ replicate 4 true)
    -- Five days off: after Maundy Thursday, after 24 December on a Wednesday, and after 22 December on a Friday
    × (map (λ date. working_after (day date)) (20_190_418 ∷ 20_251_224 ∷ 20_231_222 ∷ []) ≡ map day (20_190_423 ∷ 20_251_229 ∷ 20_231_227 ∷ []))
    -- Over the turn of a year, and after the last calculation date
    × (map (λ date. working_after (day date)) (20_191_231 ∷ 20_211_231 ∷ 23_991_220 ∷ []) ≡ map day (20_200_102 ∷ 20_220_103 ∷ 23_991_221 ∷ []))
