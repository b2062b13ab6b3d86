-- The bytes of a code and of a currency, from their numbers.
use Prim.Native.Nat.{ℕ, suc, ◌+◌, ◌-◌, ◌*◌, ◌/◌, ◌%◌, ◌<◌}
use native.Mathlib.Omega.{arith}
use mathlib.Core.Bool.{true}
use mathlib.Core.List.{[], ◌∷◌}
use mathlib.Core.Path.{◌≡◌, ◌∙◌}
use Rattle.paper.specs.Units.{Text, Code, Currency}
use Rattle.paper.specs.Text.{is_code, is_currency}
use Rattle.tables.specs.Numbers.{bytes_from, code_number, currency_number}
use Rattle.tables.proofs.Numbers.{Coded, final, more, code_coded, currency_coded, currency_number_low}
use Rattle.lines.specs.Written.{money_text, spelled, code_text}

-- A base in which the last byte and what stands before it are had back from their number
abbrev Parted : ℕ → Type 0
Parted base = (n d : ℕ) → d < base → ((base * n + d) / base ≡ n) × ((base * n + d) % base ≡ d)

-- The number of bytes read on from another spells them, and before them what the other spells
module _ (base many : ℕ) (parted : Parted base) where
  spelled_back : {k : ℕ} {t : Text} (n j : ℕ) → j + k ≡ many → Coded base k t
      → let m = bytes_from base n t in spelled many (m / base) ((48 + m % base) ∷ []) ≡ spelled j n t
  spelled_back n j e (final {b} p q) =
      let all : many ≡ j = omega arith in
      let last : 48 + (b - 48) ≡ b = omega arith in
      rw (all, (parted n (b - 48) q).0, (parted n (b - 48) q).1, last)
  spelled_back n j e (more {b} p q r) =
      let before : (43 * n + (b - 48)) / 43 ≡ n = omega arith in
      let byte : 48 + (43 * n + (b - 48)) % 43 ≡ b = omega arith in
      spelled_back (43 * n + (b - 48)) (suc j) (omega arith) r ∙ rw (before, byte)

-- The bytes of a code are those that its number was made of
pub code_text_lem : (c : Code) → is_code c ≡ true → code_text (code_number c) ≡ c
code_text_lem c h = spelled_back 10 11 (λ n d p. (omega arith, omega arith)) 0 0 (omega arith) (code_coded c h)

-- And the letters of a currency
pub money_text_lem : (c : Currency) → is_currency c ≡ true → money_text (currency_number c) ≡ c
money_text_lem c h =
    let n = currency_number c in
    let first : n / 1849 ≡ n / 43 / 43 % 43 = omega (arith, currency_number_low c h) in
    rw first (spelled_back 43 2 (λ n d p. (omega arith, omega arith)) 0 0 (omega arith) (currency_coded c h))
