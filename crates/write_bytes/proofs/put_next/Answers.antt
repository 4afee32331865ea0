-- `write_bytes::put_next` meets its contract: by whether so many are left.
use Rattle.std.proofs.Common.{ℕ, List, ◌≡◌, ◌+◌, ◌-◌, length, take, drop, sym, ap, ◌∙◌, arith, length-drop}
use lib.Seq.{length-take-le}
use Rattle.write_bytes.specs.Put.{put}
use Rattle.write_bytes.proofs.Copies.{put_whole}
use Rattle.write_bytes.proofs.put_next.Goals as goal

pub returns-then-text-n : goal.returns-then-text-n
unfolding put
returns-then-text-n g c = let a = c.args in
    let z : a.n - a.n ≡ 0 = omega arith in (
      sym (ap (λ k. put a.out.now (a.at + a.n) (take k (drop a.n a.text.now))) z),
      (omega arith, (omega arith, ((λ h. omega arith), (λ h. omega arith)))),
    )

pub returns : goal.returns
returns g c = let a = c.args in
    let s = a.text.now in
    let k : ℕ = a.n + g.row.N - a.n in
    let next : List ℕ = take k (drop a.n s) in
    let d : length (drop a.n s) ≡ length s - a.n = length-drop a.n s in
    let t : length next ≡ k = length-take-le k (drop a.n s) (omega arith) in (
      put_whole a.out.now next (a.at + a.n) _ (omega arith) (omega arith) (c.copy_from_slice-2.ensures.after ∙ c.copy_from_slice.ensures.after),
      (omega arith, (omega arith, ((λ h. omega arith), (λ h. omega arith)))),
    )
