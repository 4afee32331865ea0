-- `write_bytes::put_whole` meets its contract: by eights, and then four, two and one.
use Rattle.std.proofs.Common.{length, refl, ap, ◌∙◌, arith}
use lib.Seq.{take_all}
use Rattle.write_bytes.specs.Put.{put}
use Rattle.write_bytes.proofs.Put.{length_put}
use Rattle.write_bytes.proofs.Copies.{wrote_on}
use Rattle.write_bytes.proofs.put_whole.Goals as goal

pub loop-n-init : goal.loop-n-init
unfolding put
loop-n-init c = (record { out = refl; end = refl }, omega arith, refl)

pub loop-n-preserved : goal.loop-n-preserved
loop-n-preserved c = let l = c.loop-n in
    let s = c.args.text.now in
    let e = c.put_next-n.ensures in
    (wrote_on l.n _ s e.1.0 e.1.1.0 e.0 l.invariant.0, e.1.1.0, ap length e.0 ∙ length_put l.out _ _ ∙ l.invariant.2)

pub returns : goal.returns
returns c = let l = c.loop-n in
    let s = c.args.text.now in
    let e = c.put_next-four.ensures in
    let f = c.put_next-two.ensures in
    let h = c.put_next.ensures in
    let a = wrote_on l.n _ s e.1.0 e.1.1.0 e.0 l.invariant.0 in
    let b = wrote_on c.put_next-four.result _ s f.1.0 f.1.1.0 f.0 a in
    let d = wrote_on c.put_next-two.result _ s h.1.0 h.1.1.0 h.0 b in
    let four = e.1.1.1.1 (omega (arith, c.loop-n-test.false)) in
    let two = f.1.1.1.1 (omega (arith, four)) in
    let one = h.1.1.1.1 (omega (arith, two)) in
    d.out ∙ ap (put c.args.out.now c.args.at) (take_all c.put_next.result s (omega (arith, one)))
