-- The premise of demand 3 is needed: there is an accepted function that runs like its rewriting because of it alone.
use Prim.Native.Nat.{ℕ}
use mathlib.Core.List.{List, []}
use native.Mathlib.Omega.{arith}
use Rattle.record.specs.Hex.{hex}
use Rattle.record.specs.Typing.{accept}
use Rattle.numbering.specs.Number.{lvn}
use Rattle.record.specs.Record.{nm, limits, names_of}
use Rattle.machine.specs.Machine.{run}
use Rattle.machine.specs.Examples.{store_of, function_of}
use Rattle.pairing.specs.Demand.{Agree, RunAlike}
use Rattle.pairing.proofs.Instances.{record_alike}
use Rattle.pairing.proofs.Unlike.{told, held}
use Rattle.pairing.specs.Opened.{all_of_pairing}

-- "if the first run has read no unset name by then": z = 0; x = mul z u is accepted, and its rewriting has x = 0. The runs are alike where
-- u holds something; where it holds nothing the first has read it, and they are not
abbrev pub times_nothing : List ℕ
times_nothing = hex "0000002F 01 00 0003 00017A 000178 000175 0001 0002 0000 00000001 00 0000 00 0000000000000000 00000002 03 0001 02 0000 0002"

pub premise_needed :
    let f = function_of (accept limits times_nothing) in
    RunAlike f (lvn f) ×
    (Agree (names_of f) (lvn f).blocks (run f (store_of []) [] 1) (run (lvn f) (store_of []) [] 1) → ⊥)
unfolding all_of_pairing
premise_needed = (record_alike times_nothing tt tt, λ a. told held (a.values (nm 1) (omega arith)) tt)
