-- Demand 3 is not empty: records, stores and answers that meet every premise of it, by computation.
use Prim.Native.Nat.{ℕ, zero, suc, ◌<◌}
use mathlib.Core.Path.{◌≡◌, refl, sym, ap, subst}
use mathlib.Core.Bool.{Bool, true, false, ◌&&◌}
use mathlib.Core.List.{List, [], ◌∷◌}
use mathlib.Core.Option.{Option, none, some}
use native.Mathlib.Omega.{arith}
use mir.Facts.{and_yes}
use lib.ListN.{get_or}
use lib.Dec.{T, ltb, ltb→lt}
use lib.Ieee.Bits.{is_true}
use Rattle.arith.proofs.Clash.{clash}
use Rattle.arith.specs.Map.{pick}
use Rattle.arith.specs.Value.{Val, Val-discrete, HasType}
use Rattle.record.specs.Record.{Bytes, Placed, Record, Function, function, plain, limits, names_of, type_in}
use Rattle.record.specs.Reader.{Res, got, fault}
use Rattle.record.specs.Typing.{accept}
use Rattle.numbering.specs.Number.{lvn}
use Rattle.machine.specs.Machine.{Answer, Run, run}
use Rattle.machine.specs.Reached.{is_set, read_no_unset}
use Rattle.machine.specs.Examples.{store_of, function_of}
use Rattle.pairing.proofs.Accepted.{accepted_fit}
use Rattle.pairing.proofs.Functions.{demand3}
use Rattle.pairing.specs.Demand.{Starts, Agree, RunAlike}
use Rattle.pairing.specs.Premises.{accepted, are_bytes, value_fits, typed, first_set, same_value, all_same}

-- ---- tests and facts
bytes_are : (s : List ℕ) → T (are_bytes s) → Bytes s
unfolding are_bytes
bytes_are [] t = tt
bytes_are (b ∷ s) t = let (x, y) = and_yes (ltb b 256) (are_bytes s) t in (ltb→lt b 256 x, bytes_are s y)

fits_value : (t : ℕ) (o : Option Val) → T (value_fits t o) → (v : Val) → o ≡ some v → HasType t v
fits_value t none p v e = clash (cc)
fits_value t (some u) p v e = subst (λ w. HasType t w) (let z : u ≡ v = cc in z) p

typed_at : (ts : List ℕ) (vs : List (Option Val)) → T (typed ts vs) → (n : ℕ) (v : Val) → get_or vs n none ≡ some v → HasType (get_or ts n 0) v
unfolding typed
typed_at ts [] p n v e = clash (cc)
typed_at [] (o ∷ vs) p n v e = absurd p
typed_at (t ∷ ts) (o ∷ vs) p zero v e = fits_value t o (and_yes (value_fits t o) (typed ts vs) p).0 v e
typed_at (t ∷ ts) (o ∷ vs) p (suc n) v e = typed_at ts vs (and_yes (value_fits t o) (typed ts vs) p).1 n v e

set_at : (n : ℕ) (vs : List (Option Val)) → T (first_set n vs) → (x : ℕ) → x < n → (v : Val) × (get_or vs x none ≡ some v)
unfolding first_set is_set
set_at zero vs t x l = absurd (let z : 0 < 0 = omega arith in omega arith)
set_at (suc n) [] t x l = absurd t
set_at (suc n) (o ∷ vs) t zero l = held o (and_yes (is_set o) (first_set n vs) t).0
  where
    held : (o : Option Val) → T (is_set o) → (v : Val) × (o ≡ some v)
    held none p = absurd p
    held (some v) p = (v, refl)
set_at (suc n) (o ∷ vs) t (suc x) l = set_at n vs (and_yes (is_set o) (first_set n vs) t).1 x (omega arith)

same_values : (o p : Option Val) → T (same_value o p) → p ≡ o
same_values none none t = refl
same_values none (some w) t = absurd t
same_values (some v) none t = absurd t
same_values (some v) (some w) t = by (Val-discrete v w) t
  where
    by : (d : Dec (v ≡ w)) → T (pick d true false) → some w ≡ some v
    by (yes e) t = ap some (sym e)
    by (no h) t = absurd t

same_at : (n : ℕ) (vs ws : List (Option Val)) → T (all_same n vs ws) → (x : ℕ) → x < n → get_or ws x none ≡ get_or vs x none
unfolding all_same
same_at zero vs ws t x l = absurd (let z : 0 < 0 = omega arith in omega arith)
same_at (suc n) [] ws t x l = absurd t
same_at (suc n) (o ∷ vs) [] t x l = absurd t
same_at (suc n) (o ∷ vs) (p ∷ ws) t zero l = same_values o p (and_yes (same_value o p) (all_same n vs ws) t).0
same_at (suc n) (o ∷ vs) (p ∷ ws) t (suc x) l = same_at n vs ws (and_yes (same_value o p) (all_same n vs ws) t).1 x (omega arith)

-- ---- the premises from the tests
pub starts_from :
    (f : Function) (vs ws : List (Option Val)) →
    T (typed f.types vs) →
    T (first_set f.args vs) →
    T (all_same (names_of f) vs ws) →
    Starts f (store_of vs) (store_of ws)
unfolding type_in
starts_from f vs ws t s e =
    record {
      typed = λ x l v p. typed_at f.types vs t x.0 v p;
      set = λ x l. set_at f.args vs s x.0 l;
      same = λ x l. same_at (names_of f) vs ws e x.0 l;
    }

-- ---- a record that is accepted, and its rewriting
-- the function of a record and of its rewriting run alike, if the tests say that it is a list of bytes and accepted
pub record_alike :
    (s : List ℕ) → T (are_bytes s) → T (accepted (accept limits s)) →
    RunAlike (function_of (accept limits s)) (lvn (function_of (accept limits s)))
record_alike s b a = go (accept limits s) refl a
  where
    go : (x : Res (Record Placed)) → accept limits s ≡ x → T (accepted x) → RunAlike (function_of x) (lvn (function_of x))
    go (got r p) e t = demand3 (function (plain r)) (accepted_fit s (bytes_are s b) r p e)
    go (fault k o) e t = absurd t

-- a record, what the names of its function and of its rewriting hold at the start, the answers, and how many blocks are run
pub record Case : Type 0 where
  pub bytes : List ℕ
  pub first : List (Option Val)
  pub second : List (Option Val)
  pub answers : List Answer
  pub asked : ℕ

abbrev pub function_in : Case → Function
function_in c = function_of (accept limits c.bytes)

abbrev pub first_run : Case → Run
first_run c = run (function_in c) (store_of c.first) c.answers c.asked

abbrev pub second_run : Case → Run
second_run c = run (lvn (function_in c)) (store_of c.second) c.answers c.asked

-- the two runs are alike
pub record Instance (c : Case) : Type 0 where
  pub alike : let f = function_in c in Agree (names_of f) (lvn f).blocks (first_run c) (second_run c)

-- every premise of demand 3 in one test
abbrev pub meets : Case → Bool
meets c =
    let f = function_in c in
    are_bytes c.bytes && (accepted (accept limits c.bytes) && (typed f.types c.first && (first_set f.args c.first &&
    (all_same (names_of f) c.first c.second && read_no_unset f (store_of c.first) c.answers c.asked))))

pub instance : (c : Case) → T (meets c) → Instance c
instance c t =
    let f = function_in c in
    let (b, t₁) = and_yes (are_bytes c.bytes) _ t in
    let (a, t₂) = and_yes (accepted (accept limits c.bytes)) _ t₁ in
    let (ty, t₃) = and_yes (typed f.types c.first) _ t₂ in
    let (st, t₄) = and_yes (first_set f.args c.first) _ t₃ in
    let (sa, q) = and_yes (all_same (names_of f) c.first c.second) _ t₄ in
    record {
      alike =
          record_alike c.bytes b a (store_of c.first) (store_of c.second) (starts_from f c.first c.second ty st sa)
          c.answers c.asked (is_true (read_no_unset f (store_of c.first) c.answers c.asked) q);
    }
