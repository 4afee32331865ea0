-- From the contract of rewrite to the demands: what its two equations say of the bytes that it was lent and of those that it leaves; and
-- from the contract of figures to its promise.
use Prim.Native.Nat.{ℕ}
use mathlib.Core.Path.{◌≡◌, sym, ap, ◌∙◌, subst}
use mathlib.Core.Logic.{◌↔◌}
use mathlib.Core.List.{List, ◌++◌}
use native.Mathlib.Omega.{arith}
use lib.ListN.{length, take, drop, length-take, take-append-drop}
use lib.Seq.{take-append_seam, drop-append_seam}
use Rattle.arith.proofs.Clash.{clash}
use Rattle.std.specs.Prelude.{Ok, Err}
use Rattle.record.specs.Record.{Bytes, Placed, Record, plain, function, limits, wide}
use Rattle.record.specs.Reader.{got}
use Rattle.record.specs.Read.{read}
use Rattle.record.specs.Typing.{accept}
use Rattle.record.specs.Write.{bytes}
use Rattle.record.specs.Answer.{checked}
use Rattle.record.proofs.Gives.{bytes_take}
use Rattle.record.proofs.ReadFrom.{read_from, read_ends}
use Rattle.numbering.specs.declared.RewriteError.TheVariants.{Refused, Room}
use Rattle.numbering.specs.declared.FiguresError.TheVariants as figured
use Rattle.numbering.specs.Rewrite.{Rewritten, totals}
use Rattle.numbering.specs.Figures.{Figured}
use Rattle.numbering.proofs.Ways.{same_bytes, same_saves}
use Rattle.numbering.specs.Made.{rewriting}
use Rattle.numbering.specs.Rewrite.{rewritten_bytes, rewrite, rewrite_leaves}
use Rattle.numbering.specs.Figures.{figures, figures_leaves}
use Rattle.numbering.specs.Ahead.{FewPlaces}
use Rattle.numbering.specs.Ways.{all_saves, Faulty, TooShort, HasRoom, ExactlyOne, first, second, third, Ends}
use Rattle.numbering.proofs.Ways.{same_value, three_ways}
use Rattle.pairing.specs.Demand.{RunAlike, SavesBounded}
use Rattle.pairing.specs.Contract.{Accepted, WrittenAlike, DemandsMet, FiguresMet}
use Rattle.pairing.proofs.Theorems.{few_saves, reads_as_rewriting, bytes_run_alike, program_has_room, figures_are_rewrites, figures_refused_as_checked, refused_for_few_places, places_stay, refusals_write_no_place}

-- only an output with room is written
wrote : {s out left : List ℕ} {answer : Rewritten} → Ends s out answer left → (n k : ℕ) → answer ≡ Ok (totals n k) → HasRoom s (length out)
wrote {s} {out} {answer = answer} d n k e = go d.one_way
  where
    go : ExactlyOne (Faulty s) (TooShort s (length out)) (HasRoom s (length out)) → HasRoom s (length out)
    go (first w b c) =
        let r : answer ≡ Err (Refused w.fault) = (d.faulty w).0 in
        clash (cc)
    go (second a w c) =
        let r : answer ≡ Err (Room (length (rewritten_bytes w.it))) = (d.too_short w).0 in
        clash (cc)
    go (third a b w) = w

-- Where the answer is Ok, that way of ending gives the rewriting and the runs.
pub written_run_alike :
    (s out out' : List ℕ) (answer : Rewritten) → Bytes s → Ends s out answer out' →
    (n k : ℕ) → answer ≡ Ok (totals n k) → WrittenAlike s out out' n k
written_run_alike s out out' answer b d n k e =
    let w = wrote d n k e in
    let it = w.it in
    let new = rewritten_bytes it in
    let a : Accepted s it = record { bytes = b; end = w.end; accepted = w.accepted } in
    let back = reads_as_rewriting s it a in
    let many : n ≡ length new = same_bytes answer e (d.has_room w).0 in
    let left : out' ≡ new ++ drop n out = (d.has_room w).1 ∙ ap (λ m. new ++ drop m out) (sym many) in
    let begins : take n out' ≡ new = (λ i. take (many i) (left i)) ∙ take-append_seam new (drop n out) in
    record {
      input = it;
      accepted = a;
      output = back.back;
      reads = (λ i. read wide (begins i) 0) ∙ back.reads ∙ ap (got back.back) (sym many);
      rewritten = back.same;
      saves = same_saves answer e (d.has_room w).0 ∙ ap (λ r. all_saves r.blocks) (sym back.same);
      alike = bytes_run_alike s it a;
      bounded = subst (SavesBounded (function (plain it))) (sym back.rewritten) (few_saves s it a);
      beyond = (λ i. drop (many i) (left i)) ∙ drop-append_seam new (drop n out);
    }

-- Nothing else is told so: bytes that WrittenAlike is said of, in an output of the same length, are what rewrite leaves, and its answer.
pub written_alone :
    (s out out' : List ℕ) (n k : ℕ) → Bytes out' → length out' ≡ length out → WrittenAlike s out out' n k →
    (Ok (totals n k) ≡ rewrite s out) × (out' ≡ rewrite_leaves s out)
unfolding rewritten_bytes
written_alone s out out' n k b l a =
    let new = rewritten_bytes a.input in
    let t = take n out' in
    let same : t ≡ new = sym (read_from wide t (bytes_take n out' b) a.output n a.reads) ∙ ap bytes a.rewritten in
    let ends : n ≡ length t = read_ends wide t (bytes_take n out' b) a.output n a.reads in
    let many : n ≡ length new = ends ∙ ap length same in
    let saves : k ≡ all_saves (rewriting (plain a.input)).blocks = a.saves ∙ ap (λ r. all_saves r.blocks) a.rewritten in
    let w : HasRoom s (length out) =
    record {
      it = a.input;
      end = a.accepted.end;
      accepted = a.accepted.accepted;
      holds = omega (arith, many, ends, l, length-take n out');
    } in
    let e = (three_ways s out).has_room w in (
      (λ i. Ok (totals (many i) (saves i))) ∙ sym e.0,
      sym (take-append-drop n out') ∙ (λ i. same i ++ a.beyond i) ∙ ap (λ m. new ++ drop m out) many ∙ sym e.1,
    )

-- For every input, output and answer: the two equations of rewrite's contract give the demands.
pub contract_meets_demands :
    (s out out' : List ℕ) (answer : Rewritten) → Bytes s →
    answer ≡ rewrite s out → out' ≡ rewrite_leaves s out → DemandsMet s out out' answer
contract_meets_demands s out out' answer b e f =
    let d : Ends s out answer out' = subst (λ a. Ends s out a out') (sym e) (subst (Ends s out (rewrite s out)) (sym f) (three_ways s out)) in
    record {
      bytes = b;
      ends = d;
      answers = e;
      leaves = f;
      written = written_run_alike s out out' answer b d;
      suffices = λ l o n r. program_has_room s out b l o n (sym e ∙ r);
    }

-- the functions of two records run alike, with the bound on saves
abbrev pub RunAs : Record Placed → Record Placed → Type 0
RunAs r q = RunAlike (function (plain r)) (function (plain q)) × SavesBounded (function (plain r)) (function (plain q))

-- So whoever reads the input, and the first n bytes of the output with the wider limits, has two such records.
pub readers_run_alike :
    (s out out' : List ℕ) (answer : Rewritten) → DemandsMet s out out' answer →
    (n k : ℕ) → answer ≡ Ok (totals n k) →
    (r q : Record Placed) (p m : ℕ) → accept limits s ≡ got r p → read wide (take n out') 0 ≡ got q m → RunAs r q
readers_run_alike s out out' answer d n k e r q p m f g =
    let a = d.written n k e in
    let x : a.input ≡ r = same_value (accept limits s) a.input r a.accepted.end p a.accepted.accepted f in
    let y : a.output ≡ q = same_value (read wide (take n out') 0) a.output q n m a.reads g in
    subst (RunAs r) y (subst (λ z. RunAs z a.output) x (a.alike, a.bounded))

-- For every input, places and answer: the two equations of figures' contract give its promise.
pub contract_meets_promise :
    (s each each' : List ℕ) (answer : Figured) → answer ≡ figures s each → each' ≡ figures_leaves s each → FiguresMet s each each' answer
contract_meets_promise s each each' answer e f =
    record {
      answers = e;
      leaves = f;
      counted = λ n k a. figures_are_rewrites s each n k (sym e ∙ a);
      refused = λ f.
          subst (λ a. (a ≡ Err (figured.Refused f)) ↔ (checked s ≡ Err f)) (sym e) (figures_refused_as_checked s each f);
      too_few = subst (λ a. (a ≡ Err figured.TooFew) ↔ FewPlaces s (length each)) (sym e) (refused_for_few_places s each);
      untouched = λ h. f ∙ refusals_write_no_place s each (λ n k a. h n k (e ∙ a));
      same_length = ap length f ∙ places_stay s each;
    }
