-- `engine_quiet::onward` meets its contract.
use Rattle.engine_quiet.proofs.Landing.{went_on, went_past}
use Rattle.engine_quiet.proofs.onward.Goals as goal

pub returns-then-p-gt1 : goal.returns-then-p-gt1
returns-then-p-gt1 c = let h = c.requires in
    went_on c.args.g.now c.args.p h.stands c.args.next c.requires.next _ c.if-p-gt1.true

pub returns : goal.returns
returns c = let h = c.requires in
    went_past c.args.g.now c.args.p h.stands c.args.next c.requires.next _ _ c.if-p-gt1.false c.land.ensures
