-- The engine's final store reads as a store of the same record, so that a run can be continued from it: a step keeps a typed store typed,
-- and sets no name that the record does not have. Rests on the types of an accepted function, and on the run by steps.
use Prim.Native.Nat.{ℕ, zero, suc, ◌≤◌, ◌<◌}
use mathlib.Core.Path.{◌≡◌, refl, sym, ap, ◌∙◌, subst}
use mathlib.Core.Bool.{true}
use mathlib.Core.Option.{Option, none, some}
use mathlib.Core.List.{List, [], ◌∷◌, ◌++◌, map}
use native.Mathlib.Omega.{arith}
use native.Mathlib.Decide.{dec_lt}
use lib.ListN.{length, get_or}
use lib.Ieee.Bits.{is_true}
use Rattle.std.specs.Bool.{passes}
use Rattle.arith.proofs.Clash.{clash}
use Rattle.arith.specs.Map.{pick, upd}
use Rattle.arith.specs.Value.{Val, has_type, HasType}
use Rattle.record.specs.declared.NameIx.{NameIx}
use Rattle.record.specs.declared.Limits.{Limits}
use Rattle.record.specs.Record.{NameIx-discrete, Bytes, Instr, Block, Name, Function, function, plain, names_of, type_in, limits}
use Rattle.record.specs.Form.{Form}
use Rattle.record.specs.Reader.{got}
use Rattle.record.specs.Shape.{shape_of}
use Rattle.record.specs.Good.{Each, NamesOk}
use Rattle.record.proofs.Accepted.{read_ok}
use Rattle.record.proofs.Typed.{accept_typed}
use Rattle.record.proofs.Tests.{and_left, and_right}
use Rattle.numbering.proofs.Saves.{Dests}
use Rattle.running.specs.declared.Ending.{Ending}
use Rattle.running.specs.Engine.{done}
use Rattle.machine.specs.Machine.{Store, Context, plain_machine, Answer, Mach, tick, assign, happens}
use Rattle.running.specs.Steps.{steps, start}
use Rattle.running.specs.House.{stored, of_type, of_types, holding, values_from, store_bytes}
use Rattle.running.specs.Engine.{running_for, lets_pass, engine}
use Rattle.running.proofs.Kept.{Gives, computed, told, performed, Keeps, steps_keep}
use Rattle.running.proofs.House.{TypesPass, store_reads_back}
use Rattle.running.proofs.Engine.{Given, IsMachine, engine_is_machine}
use Rattle.pairing.specs.Demand.{All}
use Rattle.pairing.proofs.Fit.{FitInstr, FitBody, FitFunction}
use Rattle.pairing.proofs.Typing.{eval_typed}
use Rattle.pairing.proofs.Accepted.{accepted_fit}

-- t: the type of each name; N: how many there are
pub record Sound (N : ℕ) (t : NameIx → ℕ) (σ : Store) : Type 0 where
  pub typed : (x : NameIx) (v : Val) → σ x ≡ some v → HasType (t x) v
  pub beyond : (x : NameIx) → N ≤ x.0 → σ x ≡ none

-- ---- one step
assign_sound :
    (N : ℕ) (t : NameIx → ℕ) (σ : Store) (d : NameIx) (v : Val) →
    Sound N t σ → d.0 < N → HasType (t d) v → Sound N t (upd NameIx-discrete σ d (some v))
unfolding upd
assign_sound N t σ d v h l k =
    record { typed = λ x u e. at_typed x u (NameIx-discrete x d) e; beyond = λ x b. at_beyond x b (NameIx-discrete x d) }
  where
    at_typed : (x : NameIx) (u : Val) (q : Dec (x ≡ d)) → pick q (some v) (σ x) ≡ some u → HasType (t x) u
    at_typed x u (yes p) e = let z : v ≡ u = cc e in subst (λ (y : NameIx). HasType (t y) u) (sym p) (subst (HasType (t d)) z k)
    at_typed x u (no p) e = h.typed x u e

    at_beyond : (x : NameIx) → N ≤ x.0 → (q : Dec (x ≡ d)) → pick q (some v) (σ x) ≡ none
    at_beyond x b (yes p) = absurd (omega (arith, l, b, ap (λ (y : NameIx). y.0) p))
    at_beyond x b (no p) = h.beyond x b

module _ (f : Function) where
  abbrev N : ℕ
  N = names_of f

  abbrev t : NameIx → ℕ
  t = type_in f.types

  abbrev ctx : Context
  ctx = plain_machine f

  module _ (i : Instr) (fit : FitInstr N t i) where
    given_typed : (σ : Store) (v : Val) → Sound N t σ → Gives ctx i σ v → HasType (t i.dest) v
    given_typed σ v h (computed e p q) = eval_typed t σ e (t i.dest) (fit.typed e p) (λ x u r l. h.typed x u r) v q
    given_typed σ v h (told xs p q) = rw q tt
    given_typed σ v h (performed xs vs p q) = clash (cc q)

    abbrev WithDest : Form → Type 0
    WithDest g = Dests N (shape_of i.code).dest i.dest g

    given_below : (σ : Store) (v : Val) → Gives ctx i σ v → i.dest.0 < N
    given_below σ v (computed e p q) = (subst WithDest p fit.original).1
    given_below σ v (told xs p q) = (subst WithDest p fit.original).1
    given_below σ v (performed xs vs p q) = clash (cc q)

    fit_keeps : Keeps ctx i (λ m. Sound N t m.store)
    unfolding tick assign happens
    fit_keeps =
        record {
          ticked = λ m h. h;
          assigned = λ m v g h. assign_sound N t m.store i.dest v h (given_below m.store v g) (given_typed m.store v h g);
          added = λ m vs xs s r h. h;
        }

  -- ---- steps of a function
  body_each : (is : List Instr) → FitBody N t is → Each (λ left i. FitInstr N t i) is
  body_each [] h = tt
  body_each (i ∷ is) h = (h.0, body_each is h.1.1)

  blocks_each :
      (bs : List (Block Instr)) → All (λ (b : Block Instr). FitBody N t b.body) bs → Each (λ left b. Each (λ left i. FitInstr N t i) b.body) bs
  blocks_each [] h = tt
  blocks_each (b ∷ bs) h = (body_each b.body h.0, blocks_each bs h.1)

  pub steps_sound :
      FitFunction f → (k : ℕ) (σ : Store) (xs : List Answer) → Sound N t σ → Sound N t (steps ctx f.blocks k (start f.blocks σ xs)).mach.store
  steps_sound fit k σ xs h =
      steps_keep ctx (λ m. Sound N t m.store) (λ i. FitInstr N t i) fit_keeps f.blocks (blocks_each f.blocks fit.blocks) k σ xs h

-- ---- what a starting store that 13 lets pass holds
holding_typed :
    (ts : List ℕ) (vs : List (Option Val)) →
    of_types ts vs ≡ true →
    (k : ℕ) (v : Val) → get_or vs k none ≡ some v → has_type (get_or ts k 0) v ≡ true
unfolding of_types
holding_typed [] [] e k v p = clash (cc p)
holding_typed [] (o ∷ vs) e k v p = clash (cc e)
holding_typed (t ∷ ts) [] e k v p = clash (cc e)
holding_typed (t ∷ ts) (o ∷ vs) e zero v p =
    subst (λ (x : Option Val). of_type t x ≡ true) p (and_left (of_type t o) (of_types ts vs) e)
holding_typed (t ∷ ts) (o ∷ vs) e (suc k) v p = holding_typed ts vs (and_right (of_type t o) (of_types ts vs) e) k v p

holding_beyond : (ts : List ℕ) (vs : List (Option Val)) → of_types ts vs ≡ true → (k : ℕ) → length ts ≤ k → get_or vs k none ≡ none
unfolding of_types
holding_beyond [] [] e k l = refl
holding_beyond [] (o ∷ vs) e k l = clash (cc e)
holding_beyond (t ∷ ts) [] e k l = refl
holding_beyond (t ∷ ts) (o ∷ vs) e zero l = absurd (omega (arith, l))
holding_beyond (t ∷ ts) (o ∷ vs) e (suc k) l =
    holding_beyond ts vs (and_right (of_type t o) (of_types ts vs) e) k (omega (arith, l))

holding_sound : (ts : List ℕ) (vs : List (Option Val)) → of_types ts vs ≡ true → Sound (length ts) (type_in ts) (holding vs)
unfolding type_in
holding_sound ts vs e =
    record {
      typed = λ x v p. passes (has_type (type_in ts x) v) (holding_typed ts vs e x.0 v p);
      beyond = λ x l. holding_beyond ts vs e x.0 l;
    }

-- the types of an accepted record's names
names_pass : (lim : Limits) (seen : List (List ℕ)) (xs : List Name) → NamesOk lim seen xs → TypesPass (map (λ x. x.type) xs)
names_pass lim seen [] h = tt
names_pass lim seen (x ∷ xs) h = (h.0.type, names_pass lim (seen ++ (x.text ∷ [])) xs h.1)

-- ---- the final store
-- "a typed store": what the engine leaves reads as the values that the machine has, each of its name's type, so that it is let pass again
pub record Continues (ts : List ℕ) (σ : Store) : Type 0 where
  pub reads :
      stored (length ts) (store_bytes (values_from σ 0 (length ts))) 0 ≡
      got (values_from σ 0 (length ts)) (length (store_bytes (values_from σ 0 (length ts))))
  pub typed : of_types ts (values_from σ 0 (length ts)) ≡ true
  pub holds : holding (values_from σ 0 (length ts)) ≡ σ

-- what a run leaves whose inputs 13 lets pass
pub left_continues :
    (s store list : List ℕ) (limit : ℕ) → Bytes s → (g : Given s store list) →
    let f = function (plain g.rec) in
    lets_pass limit f g.values g.told ≡ true →
    Continues f.types (running_for limit f g.values g.told).mach.store
left_continues s store list limit bytes g pass =
    let f = function (plain g.rec) in
    let fit : FitFunction f = accepted_fit s bytes g.rec g.rec_end g.accepted in
    let ok = read_ok limits s g.rec g.rec_end (accept_typed limits s g.rec g.rec_end g.accepted).reads in
    let types : TypesPass f.types = names_pass limits [] (plain g.rec).names ok.names in
    let typed : of_types f.types g.values ≡ true = and_left (of_types f.types g.values) _ pass in
    let σ = (running_for limit f g.values g.told).mach.store in
    let last : Sound (names_of f) (type_in f.types) σ =
    steps_sound f fit limit (holding g.values) g.told (holding_sound f.types g.values typed) in
    let r = store_reads_back f.types σ types (λ x b v p. is_true (has_type (type_in f.types x) v) (last.typed x v p)) in
    let n = length f.types in
    let again : of_types f.types (values_from σ 0 n) ≡ true = r.1 in
    record {
      reads = r.0;
      typed = again;
      holds = λ i x. same σ n r.2 (holding_beyond f.types (values_from σ 0 n) again) last.beyond x (dec_lt x.0 n) i;
    }
  where
    same :
        (σ : Store) (n : ℕ) → ((x : NameIx) → x.0 < n → holding (values_from σ 0 n) x ≡ σ x) →
        ((k : ℕ) → n ≤ k → get_or (values_from σ 0 n) k none ≡ none) →
        ((x : NameIx) → n ≤ x.0 → σ x ≡ none) →
        (x : NameIx) → Dec (x.0 < n) → holding (values_from σ 0 n) x ≡ σ x
    same σ n h k b x (yes l) = h x l
    same σ n h k b x (no l) = k x.0 (omega (arith, l)) ∙ sym (b x (omega (arith, l)))

pub final_store_reads_back :
    (s store list : List ℕ) (limit : ℕ) (events left : List ℕ) (e l k : ℕ) (how : Ending) →
    Bytes s →
    (h : engine s store list limit events left ≡ done e l k how) →
    let m = engine_is_machine s store list limit events left e l k how h in
    Continues (function (plain m.given.rec)).types m.mach.store
final_store_reads_back s store list limit events left e l k how bytes h =
    go (engine_is_machine s store list limit events left e l k how h)
  where
    go :
        (m : IsMachine s store list limit events left e l k how) →
        Continues (function (plain m.given.rec)).types m.mach.store
    go m =
        subst (λ (n : Mach). Continues (function (plain m.given.rec)).types n.store) (sym m.by_steps)
        (left_continues s store list limit bytes m.given m.passed)
