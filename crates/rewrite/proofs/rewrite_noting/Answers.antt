-- `rewrite::rewrite_noting` meets its contract: an output of eight bytes for each has room; any other is measured.
use native.Mathlib.Omega.{arith}
use Rattle.rewrite.proofs.Answers.{eight_times, written_result, written_output}
use Rattle.rewrite.proofs.rewrite_noting.Goals as goal

pub put_once-requires : goal.put_once-requires
put_once-requires c = (c.requires, eight_times c.args.out.now c.requires.typed.reads c.if-out-src.true)

pub returns-then-out-src : goal.returns-then-out-src
returns-then-out-src c = let out = c.args.out.now in
    let r = c.put_once.ensures in
    let room = eight_times out c.requires.typed.reads c.if-out-src.true in (
      written_result _ _ r.0 out (omega (arith, r.0, room)) r.1.0,
      written_output _ _ r.0 out (omega (arith, r.0, room)) r.1.1.0,
    )
