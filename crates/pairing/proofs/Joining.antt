-- Document 02, Point 5: each phi of an accepted record, and a step of one.
use Prim.Native.Nat.{ℕ}
use mathlib.Core.Path.{◌≡◌, refl}
use mathlib.Core.List.{List, [], ◌∷◌}
use mathlib.Core.Option.{none, some}
use lib.ListN.{length}
use Rattle.arith.specs.Value.{Val}
use Rattle.record.specs.declared.NameIx.{NameIx}
use Rattle.record.specs.Record.{Instr, Block, Function, type_in, limits}
use Rattle.record.specs.Good.{Each, InstrOk, BlockOk, PhiOk}
use Rattle.record.proofs.Typed.{TypedBody}
use Rattle.record.proofs.Form.{phi_form}
use Rattle.record.proofs.Phi.{phi_ok}
use Rattle.machine.specs.Machine.{plain_machine, Mach, ends, at_unset, tick, read_all, event_of, answered, perform, ask, act, step}

-- ---- what is accepted
module _ (N B : ℕ) (t : NameIx → ℕ) where
  abbrev Phis : List Instr → Type 0
  Phis is = Each (λ left i. i.code ≡ 39 → PhiOk B t i) is

  body_phis : (is : List Instr) → Each (InstrOk N B) is → TypedBody t is → Phis is
  body_phis [] h k = tt
  body_phis (i ∷ is) h k = (phi_ok N B (length is) t i h.0 k.0, body_phis is h.1 k.1)

  pub blocks_phis :
      (bs : List (Block Instr)) → Each (λ left b. BlockOk limits N B b) bs → Each (λ left b. TypedBody t b.body) bs →
      Each (λ left b. Phis b.body) bs
  blocks_phis [] h k = tt
  blocks_phis (b ∷ bs) h k = (body_phis b.body h.0.body k.0, blocks_phis bs h.1 k.1)

-- ---- a step
module _ (f : Function) (i : Instr) (m : Mach) (phi : i.code ≡ 39) where
  pub phi_step :
      (vs : List Val) → read_all m.store i.args ≡ some vs →
      step (plain_machine f) i m ≡ answered (type_in f.types i.dest) i (tick m) (event_of i vs) m.answers
  unfolding step tick act ask perform
  phi_step vs e = rw (phi_form (type_in f.types) i phi) (rw e refl)

  pub phi_unset : read_all m.store i.args ≡ none → step (plain_machine f) i m ≡ ends at_unset (tick m)
  unfolding step tick act ask
  phi_unset e = rw (phi_form (type_in f.types) i phi) (rw e refl)
