-- The worked examples of document 01 in version 2 (document 02, Point 7): "the rewriting keeps the version it was given".
use Rattle.std.specs.Prelude.{ℕ, ◌≡◌, refl, List, [], ◌∷◌, ◌++◌, map, replicate}
use Rattle.record.specs.declared.Limits.{Limits}
use Rattle.record.specs.Hex.{hex}
use Rattle.record.specs.Record.{Placed, Record, limits, wide}
use Rattle.record.specs.Reader.{Res, got, fault}
use Rattle.record.specs.Read.{read}
use Rattle.record.specs.Versions.{converted_bytes}
use Rattle.numbering.specs.Program.{output_with}
use Rattle.numbering.specs.Examples.{inputs, outputs, further_inputs, further_outputs}
use Rattle.numbering.specs.Opened.{all_of_numbering}

-- what the program writes, with a smaller buffer
abbrev pub written : List ℕ → List ℕ
written s = output_with (replicate 140 0xEE) s

-- C1, C5 and C15, byte by byte: all saves, their ids and their counts, and two blocks
pub worked_wider :
    map (λ s. written (hex s))
    ("00000033 02 02 0003 000161 000162 000178 0001 0002 0000 0000000000000007 01 0002 02 0000 0001 0000000000000008 01 0002 02 0001 0000" ∷
    "00000058 02 00 0002 000178 000179 0001 0004 0000 0000000000000001 00 0000 00 0000000000000005 0000000000000002 00 0001 00 0000000000000005 0000000000000003 00 0000 00 0000000000000006 0000000000000004 44 01 0001" ∷
    "00000051 02 00 0001 000178 0002 0002 0000 0000000000000001 44 01 0000 0000000000000002 00 0000 00 0000000000000001 0002 0000 0000000000000003 44 01 0000 0000000000000004 00 0000 00 0000000000000002" ∷
    []) ≡
    map hex
    ("00000048 02 02 0004 000161 000162 000178 00075F785F6C766E30 0001 0003 0001 0000000000000007 01 0002 02 0000 0001 0000000000000008 0D 0003 01 0002 0000000000000008 0D 0002 01 0003" ∷
    "0000006F 02 00 0003 000178 000179 00075F785F6C766E30 0001 0005 0001 0000000000000001 00 0000 00 0000000000000005 0000000000000002 00 0001 00 0000000000000005 0000000000000003 0D 0002 01 0000 0000000000000003 00 0000 00 0000000000000006 0000000000000004 44 01 0002" ∷
    "0000007F 02 00 0003 000178 00075F785F6C766E30 00075F785F6C766E31 0002 0003 0001 0000000000000001 44 01 0000 0000000000000002 0D 0001 01 0000 0000000000000002 00 0000 00 0000000000000001 0003 0001 0000000000000003 44 01 0000 0000000000000004 0D 0002 01 0000 0000000000000004 00 0000 00 0000000000000002" ∷
    [])
unfolding all_of_numbering
worked_wider = refl

-- a record within these limits, in version 2
abbrev pub wider_of : Res (Record Placed) → List ℕ
wider_of (got r p) = converted_bytes 2 r
wider_of (fault k o) = []

abbrev pub wider : Limits → List ℕ → List ℕ
wider lim s = wider_of (read lim s 0)

-- C1 to C15: the rewriting of each, in version 2, is the rewriting of it in version 2
pub all_wider :
    map (λ s. written (wider limits s)) (inputs ++ further_inputs) ≡ map (wider wide) (outputs ++ further_outputs)
unfolding all_of_numbering
all_wider = refl
