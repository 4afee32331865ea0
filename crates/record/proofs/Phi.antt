-- Document 02, Point 5: what the tests and the rule of phi come to.
use Prim.Native.Nat.{ℕ, ◌<◌}
use mathlib.Core.Path.{◌≡◌, refl, sym, ap, ◌∙◌, subst}
use mathlib.Core.List.{List, [], ◌∷◌, map}
use mathlib.Core.Bool.{true}
use lib.ListN.{length}
use lib.Dec.{eqb}
use borrow.Author.Tests.{eqb-true}
use Rattle.record.specs.declared.NameIx.{NameIx}
use Rattle.record.specs.declared.Shape.{Shape}
use Rattle.std.specs.Prelude.{Ok}
use Rattle.record.specs.Record.{Instr}
use Rattle.record.specs.Shape.{phi, row_of, shape_of}
use Rattle.record.specs.Tests.{below}
use Rattle.record.specs.Typing.{free, rules, each_is, obeys, well_typed}
use Rattle.record.specs.Good.{Each, OperandsOk, InstrOk, PhiOk}
use Rattle.record.proofs.Tests.{and_left, and_right, below_lt, count_most}

phi_shape : shape_of 39 ≡ phi
unfolding shape_of
phi_shape = refl

blocks_below : (B : ℕ) (bs : List ℕ) → Each (λ left x. below B x ≡ Ok tt) bs → Each (λ left x. x < B) bs
blocks_below B [] h = tt
blocks_below B (b ∷ bs) h = (below_lt B b h.0, blocks_below B bs h.1)

each_equal : (t : NameIx → ℕ) (k : ℕ) (xs : List NameIx) → each_is k (map t xs) ≡ true → Each (λ left x. t x ≡ k) xs
unfolding each_is
each_equal t k [] h = tt
each_equal t k (x ∷ xs) h =
    (eqb-true (t x) k (and_left (eqb (t x) k) _ h), each_equal t k xs (and_right (eqb (t x) k) (each_is k (map t xs)) h))

pub phi_ok : (N B left : ℕ) (t : NameIx → ℕ) (i : Instr) → InstrOk N B left i → well_typed t i ≡ true → i.code ≡ 39 → PhiOk B t i
unfolding well_typed obeys
phi_ok N B left t i ok typed e =
    let h : OperandsOk N B phi i = subst (λ (sh : Shape). OperandsOk N B sh i) (ap shape_of e ∙ phi_shape) ok.rest in
    let rule : each_is (t i.dest) (map t i.args) ≡ true = sym (ap (λ (c : ℕ). obeys (row_of free rules c) t i) e) ∙ typed in
    record {
      few = count_most phi (length i.args) h.args.count;
      one_each = sym h.targets;
      blocks = blocks_below B i.blocks h.blocks;
      callee = h.callee;
      types = each_equal t (t i.dest) i.args rule;
    }
