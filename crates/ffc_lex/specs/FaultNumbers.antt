-- The code of a number, so that a fault whose code clauses see as a number may be copied and compared.
use Rattle.std.specs.Prelude.{◌≡◌, ℕ, ◌==◌, if◌then◌else◌, refl}
use Rattle.ffc_lex.specs.declared.faults.FaultCode.{FaultCode}
use Rattle.ffc_lex.specs.declared.faults.FaultCode.TheVariants.{Byte, Unended, Close, Command, Shape, Logic, Order, Name, Twice, Sort, Modulus, Number, Depth, Nodes, Levels, Length}
use Rattle.ffc_lex.specs.Faults.{code_number}

-- the code of this number; where a number is none's, any code serves
abbrev pub code_numbered : ℕ → FaultCode
code_numbered n =
    if n == 1 then Byte else
    if n == 2 then Unended else
    if n == 3 then Close else
    if n == 4 then Command else
    if n == 5 then Shape else
    if n == 6 then Logic else
    if n == 7 then Order else
    if n == 8 then Name else
    if n == 9 then Twice else
    if n == 10 then Sort else
    if n == 11 then Modulus else
    if n == 13 then Number else
    if n == 14 then Depth else
    if n == 15 then Nodes else
    if n == 16 then Levels else Length

-- no two codes have one number
pub number_gives_its_code : (code : FaultCode) → code_numbered (code_number code) ≡ code
number_gives_its_code Byte = refl
number_gives_its_code Unended = refl
number_gives_its_code Close = refl
number_gives_its_code Command = refl
number_gives_its_code Shape = refl
number_gives_its_code Logic = refl
number_gives_its_code Order = refl
number_gives_its_code Name = refl
number_gives_its_code Twice = refl
number_gives_its_code Sort = refl
number_gives_its_code Modulus = refl
number_gives_its_code Number = refl
number_gives_its_code Depth = refl
number_gives_its_code Nodes = refl
number_gives_its_code Levels = refl
number_gives_its_code Length = refl
