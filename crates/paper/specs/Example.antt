-- The sheet of document 01 in full, the report that is printed there, and why each class's margin is what it is.
use Rattle.std.specs.Prelude.{[], ◌∷◌}
use Rattle.paper.specs.Units.{Text}
use Rattle.paper.specs.Text.{ascii}
use Rattle.paper.specs.Lists.{joined_up}

-- The sheet
abbrev pub sheet : Text
sheet =
    joined_up
    (ascii "BRM;1\n"
    ∷ ascii "D;20190612\n"
    ∷ ascii "C;6;G;32500;355\n"
    ∷ ascii "C;7;G;47500;490\n"
    ∷ ascii "O;6;6;8000\n"
    ∷ ascii "O;6;7;5000\n"
    ∷ ascii "S;FR0011337880;EUR;G;32475;10959200;225000;1;20181025;20191025\n"
    ∷ ascii "S;ZZ0000000016;EUR;G;40000;10000000;0;1;20190101;20200101\n"
    ∷ ascii "T;R;S;FR0011337880;1000000;110000000;20190603;20190701;-4000\n"
    ∷ ascii "T;C;S;ZZ0000000016;600000;60100000;20190614;;\n"
    ∷ [])

-- The report
abbrev pub report : Text
report =
    joined_up
    (ascii "M;9;EUR;1028170\n"
    ∷ ascii "M;10;EUR;100000\n"
    ∷ ascii "K;EUR;6;810160;0;28761\n"
    ∷ ascii "K;EUR;7;0;300000;14700\n"
    ∷ ascii "Z;EUR;1128170;43461;3217930\n"
    ∷ [])

-- Why the margin of class 6 is what it is: the O row of line 6 took of its long
abbrev pub reason : Text
reason = joined_up (ascii "P;FR0011337880;1110160\n" ∷ ascii "R;6;300000;0\n" ∷ ascii "B;L;810160\n" ∷ [])

-- ... and that of class 7: the same row took of its short
abbrev pub short_reason : Text
short_reason = joined_up (ascii "P;ZZ0000000016;-600000\n" ∷ ascii "R;6;0;300000\n" ∷ ascii "B;S;300000\n" ∷ [])
