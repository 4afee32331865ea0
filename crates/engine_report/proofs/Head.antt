-- An answer's bytes: a number, and values of eight bytes each, one behind the other.
use Prim.Native.Nat.{ℕ, suc, ◌+◌, ◌*◌, ◌<◌, ◌≤◌}
use mathlib.Core.Path.{◌≡◌, refl, sym, ap, ◌∙◌}
use mathlib.Core.List.{List, [], ◌∷◌, ◌++◌, map}
use native.Mathlib.Omega.{arith}
use lib.ListN.{length, get_or, take, drop}
use lib.Seq.{take-append_seam}
use Rattle.std.proofs.Math.Seq.{drop-cons}
use Rattle.std.proofs.Math.ListN.{drop_of_length-le}
use Rattle.record.specs.Write.{be, join}
use Rattle.running.specs.Program.{returned_bytes}
use Rattle.write_bytes.specs.Put.{put}
use Rattle.write_bytes.proofs.Put.{put_first}
use Rattle.write_bytes.proofs.Wrote.{Rest, rest_less, wrote_number}

abbrev pub values_bytes : List ℕ → List ℕ
values_bytes vs = join (map (be 8) vs)

-- the value at i is written, and those behind it are left
pub value_put : {l m l₀ whole : List ℕ} {p i₀ : ℕ} (vs : List ℕ) (i : ℕ) → i < length vs → m ≡ put l p (be 8 (get_or vs i 0)) →
    Rest l p (values_bytes (drop i vs)) l₀ i₀ whole → Rest m (p + 8) (values_bytes (drop (i + 1) vs)) l₀ i₀ whole
unfolding join
value_put vs i h w r =
    let v = get_or vs i 0 in
    let next : suc i ≡ i + 1 = omega arith in
    rest_less (be 8 v) (values_bytes (drop (i + 1) vs)) (values_bytes (drop i vs))
    (ap values_bytes (drop-cons vs i 0 h) ∙ ap (λ (k : ℕ). be 8 v ++ values_bytes (drop k vs)) next) (wrote_number 8 v w) r

-- behind the last none is left
pub values_end : (vs : List ℕ) (i : ℕ) → length vs ≤ i → values_bytes (drop i vs) ≡ []
unfolding join
values_end vs i h = ap values_bytes (drop_of_length-le vs h)

-- how many bytes they are
pub values_length : (vs : List ℕ) → length (values_bytes vs) ≡ 8 * length vs
unfolding be join
values_length [] = refl
values_length (v ∷ vs) = omega (arith, values_length vs)

-- the first bytes are the answer's
pub returned_first : (l m : List ℕ) (x n : ℕ) (vs : List ℕ) → m ≡ put l 0 (be 1 x ++ values_bytes vs) → n ≡ 1 + 8 * length vs → n ≤ length l →
    take n m ≡ returned_bytes (record { number = x; values = vs })
unfolding be join returned_bytes
returned_first l m x n vs w e h =
    let t = be 1 x ++ values_bytes vs in
    let k : length t ≡ n = omega (arith, values_length vs, e) in
    ap (λ j. take j m) (sym k) ∙ ap (take (length t)) (w ∙ put_first l t (omega (arith, k, h))) ∙ take-append_seam t (drop (length t) l)
