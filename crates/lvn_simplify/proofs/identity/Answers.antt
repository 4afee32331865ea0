-- `lvn_simplify::identity` meets its contract: by the operator, and of eq and ptradd by what is known.
use Rattle.numbering.specs.Simplify.{identity}
use Rattle.lvn_simplify.specs.View.{known_of}
use Rattle.lvn_simplify.proofs.identity.Goals as goal

pub returns-in-Eq : goal.returns-in-Eq
unfolding identity
returns-in-Eq c = let a = c.args in
    rw c.in-Eq.is (c.identity_eq.ensures (known_of a.x.known) (known_of a.y.known))

pub returns-in-PtrAdd : goal.returns-in-PtrAdd
unfolding identity
returns-in-PtrAdd c = rw c.in-PtrAdd.is (c.identity_ptr_add.ensures (known_of c.args.x.known))
