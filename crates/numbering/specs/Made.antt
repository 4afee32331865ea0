-- Made names: "`_x_lvnK`", and the rewriting as a record.
use Rattle.std.specs.Prelude.{ℕ, zero, suc, ◌+◌, ◌/◌, ◌%◌, cond, List, [], ◌∷◌, ◌++◌, get_or, ltb}
use Rattle.record.specs.declared.NameIx.{NameIx}
use Rattle.record.specs.Record.{Instr, Name, Record, function, texts, names_of, type_in}
use Rattle.numbering.specs.Number.{made_from, lvn}

-- the decimal digits of n, no zero before them; `more` bounds how many
unfoldable pub digits_of : ℕ → ℕ → List ℕ
digits_of zero n = []
digits_of (suc more) n = cond (ltb n 10) ((0x30 + n) ∷ []) (digits_of more (n / 10) ++ ((0x30 + n % 10) ∷ []))

-- all of them; `Decimal` (Decimal) says what the decimal digits of a number are
unfoldable pub digits : ℕ → List ℕ
digits n = digits_of (suc n) n

-- an underscore, the text, `_lvn`, the digits of K
unfoldable pub made_text : List ℕ → ℕ → List ℕ
made_text t k = (0x5F ∷ t) ++ ((0x5F ∷ 0x6C ∷ 0x76 ∷ 0x6E ∷ []) ++ digits k)

unfoldable pub made_name : Record Instr → ℕ → NameIx → Name
made_name r k x =
    record { type = type_in (function r).types x; text = made_text (get_or (texts r) x.0 []) k }

-- the names made with K = k, k+1, .. of these
unfoldable pub made_names : Record Instr → ℕ → List NameIx → List Name
made_names r k [] = []
made_names r k (x ∷ xs) = made_name r k x ∷ made_names r (suc k) xs

-- what K = 0, 1, .. save in the rewriting of a record
abbrev pub made : Record Instr → List NameIx
made r = made_from (names_of (function r)) (lvn (function r)).blocks

-- the rewriting of an accepted record
unfoldable pub rewriting : Record Instr → Record Instr
rewriting r =
    record {
      version = r.version;
      args = r.args;
      names = r.names ++ made_names r 0 (made r);
      blocks = (lvn (function r)).blocks;
    }
