-- `lvn_state::LvnState::give` meets its contract.
use mathlib.Core.Path.{◌≡◌}
use native.Mathlib.Omega.{arith}
use borrow.Author.Rules.{rules}
use lib.ListN.{length}
use Rattle.lvn_state.proofs.Steps.{give_view}
use Rattle.lvn_state.proofs.LvnState.give.Goals as goal

pub returns : goal.returns
returns g c = let s = c.args.self.now in
    let k : length s.env ≡ g.row.M = search rules in
    let m : length s.homes ≡ g.row.N = search rules in
    let p = c.requires in
    let e = c.push.ensures in
    rw (c.from.ensures, c.from-2.ensures)
    (give_view s.env s.homes s.values.heads s.values.nums s.values.count s.made c.args.x (omega (arith, p.0))
    c.push.new.self.heads c.push.new.self.nums c.count-k.result c.push.new.self.count _
    (omega (arith, p.1.0)) (λ q. omega (arith, p.1.1, q)) c.count-k.ensures.0 e.0 e.1)
