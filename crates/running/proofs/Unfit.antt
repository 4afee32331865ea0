-- 13 exactly where store or answers do not read, a stored value is not of its name's type, or an answer taken within the limit does not fit.
use Prim.Native.Nat.{ℕ, zero, suc, ◌≤◌, ◌<◌}
use mathlib.Core.Path.{◌≡◌, refl, sym, ap, ◌∙◌}
use mathlib.Core.Bool.{Bool, true, false, cond, not, ◌&&◌, ◌||◌}
use mathlib.Core.Logic.{◌↔◌}
use mathlib.Core.Option.{Option, none, some}
use mathlib.Core.List.{List, [], ◌∷◌}
use native.Mathlib.Omega.{arith}
use lib.ListN.{length, get_or}
use Rattle.arith.specs.Value.{Val, has_type}
use Rattle.arith.proofs.Clash.{clash}
use Rattle.record.specs.declared.Refusal.{Refusal}
use Rattle.record.specs.Record.{Instr, Placed, Block, Record, Function, function, plain, names_of, limits, id_bytes}
use Rattle.record.specs.Reader.{Res, got, fault, times}
use Rattle.record.specs.Typing.{accept}
use Rattle.record.proofs.Gives.{Gives, any_gives, times_gives}
use Rattle.machine.specs.Machine.{Store, Context, plain_machine, Answer, at_halt}
use Rattle.std.specs.Prelude.{Err}
use Rattle.running.specs.declared.RunError.TheVariants.{Unfit}
use Rattle.running.specs.Steps.{Config, take_step, steps, start}
use Rattle.running.specs.House.{stored_value, in_form, stored, answers, of_type, of_types}
use Rattle.running.specs.Engine.{fits_at, unfit_within, unfit, ran, starting, running_for, with_inputs, with_read, with_record, outcome, engine}
use Rattle.std.proofs.lemmas.Bool.{and_right, or_right}
use Rattle.running.proofs.Limit.{steps_at_most, Ends, steps_reach}
use Rattle.running.proofs.Engine.{Given, unfit_within_halts}
use Rattle.running.proofs.Given.{form_gives}
use Rattle.running.proofs.Cases.{store_unread, answers_unread, engine_unfit, result_unfit}

-- ---- "a stored value is not of its name's type"
pub record WrongType (ts : List ℕ) (vs : List (Option Val)) : Type 0 where
  pub name : ℕ
  pub held : Val
  pub below : name < length ts
  pub holds : get_or vs name none ≡ some held
  pub wrong : has_type (get_or ts name 0) held ≡ false

wrong_later : (t : ℕ) (ts : List ℕ) (o : Option Val) (vs : List (Option Val)) → WrongType ts vs → WrongType (t ∷ ts) (o ∷ vs)
wrong_later t ts o vs h =
    record { name = suc h.name; held = h.held; below = omega (arith, h.below); holds = h.holds; wrong = h.wrong }

of_types_wrong : (ts : List ℕ) (vs : List (Option Val)) → length vs ≡ length ts → of_types ts vs ≡ false → WrongType ts vs
unfolding of_types
of_types_wrong [] [] l e = clash (cc e)
of_types_wrong [] (o ∷ vs) l e = absurd (omega (arith, l))
of_types_wrong (t ∷ ts) [] l e = absurd (omega (arith, l))
of_types_wrong (t ∷ ts) (none ∷ vs) l e = wrong_later t ts none vs (of_types_wrong ts vs (omega (arith, l)) e)
of_types_wrong (t ∷ ts) (some v ∷ vs) l e =
    go (has_type t v) refl (λ h. wrong_later t ts (some v) vs (of_types_wrong ts vs (omega (arith, l)) h)) e
  where
    go :
        (b : Bool) → has_type t v ≡ b → (of_types ts vs ≡ false → WrongType (t ∷ ts) (some v ∷ vs)) →
        (b && of_types ts vs) ≡ false → WrongType (t ∷ ts) (some v ∷ vs)
    go true h rest e = rest e
    go false h rest e = record { name = 0; held = v; below = omega arith; holds = refl; wrong = h }

wrong_of_types : (ts : List ℕ) (vs : List (Option Val)) (k : ℕ) (v : Val) → get_or vs k none ≡ some v → has_type (get_or ts k 0) v ≡ false → of_types ts vs ≡ false
unfolding of_types
wrong_of_types [] [] k v h w = clash (cc h)
wrong_of_types [] (o ∷ vs) k v h w = refl
wrong_of_types (t ∷ ts) [] k v h w = refl
wrong_of_types (t ∷ ts) (o ∷ vs) zero v h w =
    let e : of_type t o ≡ false = ap (of_type t) h ∙ w in
    ap (λ (b : Bool). b && of_types ts vs) e
wrong_of_types (t ∷ ts) (o ∷ vs) (suc k) v h w = and_right (of_type t o) (of_types ts vs) (wrong_of_types ts vs k v h w)

-- a store that reads has a value or nothing for each name
stored_length : (N : ℕ) (s : List ℕ) (vs : List (Option Val)) (p : ℕ) → stored N s 0 ≡ got vs p → length vs ≡ N
unfolding stored
stored_length N s vs p e = items.gives 0 vs p e
  where
    items : Gives s (in_form (times N (λ left. stored_value))) (λ vs. length vs ≡ N)
    items =
        form_gives (times N (λ left. stored_value)) (λ vs. length vs ≡ N)
        (record { gives = λ at x p e. ((times_gives (λ left. stored_value) (λ left x. Unit {0}) (λ left. any_gives _) N).gives at x p e).0 })

-- ---- "an answer taken within the limit does not fit its instruction"
module _ (ctx : Context) (bs : List (Block Instr)) where
  abbrev fits_after : ℕ → Config → Bool
  fits_after j c = let d = steps ctx bs j c in fits_at ctx d.mach d.stand

  -- at which of the first k steps
  pub record UnfitAt (k : ℕ) (c : Config) : Type 0 where
    pub step : ℕ
    pub within : step < k
    pub unfits : fits_after step c ≡ false

  within_at : (k : ℕ) (c : Config) → unfit_within ctx bs k c ≡ true → UnfitAt k c
  unfolding unfit_within steps
  within_at zero c e = clash (cc e)
  within_at (suc k) c e = go (fits_at ctx c.mach c.stand) refl (within_at k (take_step ctx bs c)) e
    where
      go :
          (b : Bool) → fits_at ctx c.mach c.stand ≡ b →
          (unfit_within ctx bs k (take_step ctx bs c) ≡ true → UnfitAt k (take_step ctx bs c)) →
          (not b || unfit_within ctx bs k (take_step ctx bs c)) ≡ true → UnfitAt (suc k) c
      go true h rest e = let r = rest e in record { step = suc r.step; within = omega (arith, r.within); unfits = r.unfits }
      go false h rest e = record { step = 0; within = omega arith; unfits = h }

  at_within : (k : ℕ) (c : Config) (j : ℕ) → j < k → fits_after j c ≡ false → unfit_within ctx bs k c ≡ true
  unfolding unfit_within steps
  at_within zero c j l h = absurd (omega (arith, l))
  at_within (suc k) c zero l h = ap (λ (b : Bool). not b || unfit_within ctx bs k (take_step ctx bs c)) h
  at_within (suc k) c (suc j) l h = or_right (not (fits_at ctx c.mach c.stand)) _ (at_within k (take_step ctx bs c) j (omega (arith, l)) h)

-- such a run by blocks halts within the limit, so that 13 and "does what the plain machine does" do not clash
pub unfit_would_halt :
    (ctx : Context) (bs : List (Block Instr)) (σ : Store) (xs : List Answer) (limit : ℕ) → UnfitAt ctx bs limit (start bs σ xs) →
    let m = (steps ctx bs limit (start bs σ xs)).mach in
    Ends ctx bs σ xs at_halt m × (m.steps ≤ limit)
unfolding start
unfit_would_halt ctx bs σ xs limit u = (
  steps_reach ctx bs σ xs limit at_halt
      (unfit_within_halts ctx bs limit (start bs σ xs) (at_within ctx bs limit (start bs σ xs) u.step u.within u.unfits)),
  omega (arith, steps_at_most ctx bs limit (start bs σ xs)),
)

-- ---- 13
module _ (s store list : List ℕ) (limit : ℕ) (r : Record Placed) where
  abbrev f : Function
  f = function (plain r)

  pub data WhyUnfit : Type 0 where
    store_unreadable : (k : Refusal) (o : ℕ) → stored (names_of f) store 0 ≡ fault k o → WhyUnfit
    list_unreadable : (k : Refusal) (o : ℕ) → answers list 0 ≡ fault k o → WhyUnfit
    not_of_type : (vs : List (Option Val)) (q : ℕ) → stored (names_of f) store 0 ≡ got vs q → WrongType f.types vs → WhyUnfit
    does_not_fit :
        (vs : List (Option Val)) (q : ℕ) → stored (names_of f) store 0 ≡ got vs q →
        (xs : List Answer) (o : ℕ) → answers list 0 ≡ got xs o →
        UnfitAt (plain_machine f) f.blocks limit (starting f vs xs) →
        WhyUnfit

  module _ (events left : List ℕ) (p : ℕ) (accepted : accept limits s ≡ got r p) where
    -- ---- whatever is so is refused
    abbrev given :
        (vs : List (Option Val)) (q : ℕ) → stored (names_of f) store 0 ≡ got vs q →
        (xs : List Answer) (o : ℕ) → answers list 0 ≡ got xs o → Given s store list
    given vs q h xs o k =
        record {
          rec = r;
          rec_end = p;
          values = vs;
          values_end = q;
          told = xs;
          told_end = o;
          accepted = accepted;
          store_reads = h;
          list_reads = k;
        }

    typed_or_not :
        (vs : List (Option Val)) (q : ℕ) → stored (names_of f) store 0 ≡ got vs q → of_types f.types vs ≡ false →
        (a : Res (List Answer)) → answers list 0 ≡ a → engine s store list limit events left ≡ Err Unfit
    typed_or_not vs q h e (fault k o) a = answers_unread s store list limit events left r p accepted k o a
    typed_or_not vs q h e (got xs o) a =
        let u = unfit_within (plain_machine f) f.blocks limit (starting f vs xs) in
        engine_unfit s store list limit events left (given vs q h xs o a) (ap (λ (b : Bool). b && not u) e)

    why_unfit : WhyUnfit → engine s store list limit events left ≡ Err Unfit
    why_unfit (store_unreadable k o h) = store_unread s store list limit events left r p accepted k o h
    why_unfit (list_unreadable k o h) = answers_unread s store list limit events left r p accepted k o h
    why_unfit (not_of_type vs q h w) =
        typed_or_not vs q h (wrong_of_types f.types vs w.name w.held w.holds w.wrong) (answers list 0) refl
    why_unfit (does_not_fit vs q h xs o a u) =
        let e = at_within (plain_machine f) f.blocks limit (starting f vs xs) u.step u.within u.unfits in
        engine_unfit s store list limit events left (given vs q h xs o a) (and_right (of_types f.types vs) _ (ap not e))

    -- ---- what is refused is so
    inputs_why :
        (vs : List (Option Val)) (q : ℕ) → stored (names_of f) store 0 ≡ got vs q →
        (xs : List Answer) (o : ℕ) → answers list 0 ≡ got xs o →
        (a b : Bool) → of_types f.types vs ≡ a → unfit_within (plain_machine f) f.blocks limit (starting f vs xs) ≡ b →
        cond (a && not b) (ran (id_bytes r.version) (names_of f) (running_for limit f vs xs)) unfit ≡ unfit → WhyUnfit
    inputs_why vs q h xs o k true true ha hb e =
        does_not_fit vs q h xs o k (within_at (plain_machine f) f.blocks limit (starting f vs xs) hb)
    inputs_why vs q h xs o k true false ha hb e = clash (cc e)
    inputs_why vs q h xs o k false b ha hb e = not_of_type vs q h (of_types_wrong f.types vs (stored_length (names_of f) store vs q h) ha)

    read_why :
        (v : Res (List (Option Val))) → stored (names_of f) store 0 ≡ v → (a : Res (List Answer)) → answers list 0 ≡ a →
        with_read limit (plain r) v a ≡ unfit → WhyUnfit
    unfolding with_read with_inputs
    read_why (got vs q) h (got xs o) k e =
        inputs_why vs q h xs o k (of_types f.types vs) (unfit_within (plain_machine f) f.blocks limit (starting f vs xs)) refl refl e
    read_why (got vs q) h (fault a b) k e = list_unreadable a b k
    read_why (fault a b) h list k e = store_unreadable a b h

    unfit_why : engine s store list limit events left ≡ Err Unfit → WhyUnfit
    unfolding engine outcome with_record
    unfit_why e =
        let o : outcome limits s store list limit ≡ unfit = result_unfit (length events) (length left) (outcome limits s store list limit) e in
        read_why (stored (names_of f) store 0) refl (answers list 0) refl (ap (with_record limit store list) (sym accepted) ∙ o)

    pub unfit_exactly : (engine s store list limit events left ≡ Err Unfit) ↔ WhyUnfit
    unfit_exactly = (unfit_why, why_unfit)
