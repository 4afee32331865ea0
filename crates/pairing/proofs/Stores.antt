-- A step of an instruction that fits, from a typed store: it leaves the store typed, it stops as unset exactly where an argument
-- of the instruction holds nothing, and in a division only if the divisor holds 0. Rests on what operations answer.
use Prim.Native.Nat.{ℕ, ◌<◌}
use mathlib.Core.Path.{◌≡◌, refl, ap, ◌∙◌, subst}
use mathlib.Core.Bool.{Bool, true, false, ◌&&◌}
use mathlib.Core.List.{List, [], ◌∷◌}
use mathlib.Core.Option.{Option, none, some, some-injective}
use Rattle.arith.specs.Map.{upd}
use Rattle.arith.proofs.Map.{upd_ind}
use Rattle.arith.specs.Value.{tbool, Val, has_type, HasType}
use Rattle.arith.specs.Operation.{Cause, Result, ok, stops, unset, Expr, eval}
use Rattle.arith.proofs.Stops.{eval_stops}
use Rattle.record.specs.declared.NameIx.{NameIx}
use Rattle.record.specs.Record.{NameIx-discrete, Instr}
use Rattle.record.specs.Form.{Form, pure, new, effect, return, nop, jump, branch, form}
use Rattle.numbering.specs.Number.{operands, reads}
use Rattle.machine.specs.Machine.{Store, Context, Answer, value, go_on, halt, Event, Stop, at_end, at_ret, at_halt, at_unset, at_division, Mach, Step, goes, jumps, ends, tick, assign, happens, read_all, event_of, finish, take_value, answered, perform, ask, acknowledged, tell, leave, choose, bool_in, act, step}
use Rattle.machine.specs.Reached.{is_set, all_set}
use Rattle.pairing.specs.Joint.{Typed, Performed}
use Rattle.pairing.proofs.Fit.{FitInstr}
use Rattle.pairing.specs.Progress.{ByZero, not_unset}
use Rattle.pairing.specs.Demand.{All}
use Rattle.pairing.proofs.Typing.{eval_typed}
use Rattle.pairing.proofs.Valuation.{all_elem}
use Rattle.pairing.proofs.Operands.{given, bool_held, TypedIn, eval_given, there, read_given}

-- what a stop says of the instruction and of the store then
abbrev pub Divided : (NameIx → ℕ) → Store → Instr → Stop → Type 0
Divided t σ i at_end = Unit {0}
Divided t σ i at_ret = Unit {0}
Divided t σ i at_halt = Unit {0}
Divided t σ i at_unset = Unit {0}
Divided t σ i (at_division k c) = ByZero t σ i k

-- what a step of i does that finds the store σ and has the arguments xs
pub data Does (N : ℕ) (t : NameIx → ℕ) (σ : Store) (i : Instr) (xs : List NameIx) : Step → Type 0 where
  goes_on : {m : Mach} → all_set σ xs ≡ true → TypedIn N t m.store → Does N t σ i xs (goes m)
  jumps_to : {b : ℕ} {m : Mach} → all_set σ xs ≡ true → TypedIn N t m.store → Does N t σ i xs (jumps b m)
  stops_set :
      {s : Stop} {m : Mach} → not_unset s ≡ true → Divided t m.store i s → all_set σ xs ≡ true → TypedIn N t m.store →
      Does N t σ i xs (ends s m)
  stops_unset : {m : Mach} → all_set σ xs ≡ false → m.store ≡ σ → Does N t σ i xs (ends at_unset m)

module _ (N : ℕ) (ctx : Context) where
  abbrev t : NameIx → ℕ
  t = ctx.types

  pub assign_typed : (σ : Store) (d : NameIx) (v : Val) → TypedIn N t σ → HasType (t d) v → TypedIn N t (upd NameIx-discrete σ d (some v))
  assign_typed σ d v h k x l u =
      upd_ind NameIx-discrete σ d (some v) x (λ o. o ≡ some u → HasType (t x) u)
      (λ p e. rw p (subst (HasType (t d)) (some-injective v u e) k)) (λ p e. h x l u e)

  -- i: the instruction; m: the machine that has counted the step; xs: the arguments
  module _ (i : Instr) (m : Mach) (xs : List NameIx) (h : TypedIn N t m.store) where
    -- ---- operations
    finish_does :
        (r : Result) → all_set m.store xs ≡ given r → ((v : Val) → r ≡ ok v → HasType (t i.dest) v) →
        ((c : Cause) → r ≡ stops c → ByZero t m.store i i.id) → Does N t m.store i xs (finish i m r)
    unfolding finish assign given not_unset
    finish_does (ok v) a k d = goes_on a (assign_typed m.store i.dest v h (k v refl))
    finish_does (stops c) a k d = stops_set refl (d c refl) a h
    finish_does unset a k d = stops_unset a refl

    -- ---- events, once the arguments are read
    module _ (a : all_set m.store xs ≡ true) where
      take_does :
          (b : Bool) (v : Val) (e : Event) (ys : List Answer) → has_type (t i.dest) v ≡ b →
          Does N t m.store i xs (take_value b i (happens m e ys) v)
      unfolding take_value assign happens not_unset
      take_does true v e ys p = goes_on a (assign_typed m.store i.dest v h (rw p tt))
      take_does false v e ys p = stops_set refl tt a h

      answered_does : (e : Event) (ys : List Answer) → Does N t m.store i xs (answered (t i.dest) i m e ys)
      unfolding answered happens not_unset
      answered_does e [] = stops_set refl tt a h
      answered_does e (value v ∷ ys) = take_does (has_type (t i.dest) v) v e ys refl
      answered_does e (go_on ∷ ys) = stops_set refl tt a h
      answered_does e (halt ∷ ys) = stops_set refl tt a h

      acknowledged_does : (e : Event) (ys : List Answer) → Does N t m.store i xs (acknowledged m e ys)
      unfolding acknowledged happens not_unset
      acknowledged_does e [] = stops_set refl tt a h
      acknowledged_does e (value v ∷ ys) = stops_set refl tt a h
      acknowledged_does e (go_on ∷ ys) = goes_on a h
      acknowledged_does e (halt ∷ ys) = stops_set refl tt a h

      perform_does :
          (vs : List Val) (o : Option Val) → ((v : Val) → o ≡ some v → HasType (t i.dest) v) →
          Does N t m.store i xs (perform (t i.dest) i m vs o)
      unfolding perform assign
      perform_does vs none k = answered_does (event_of i vs) m.answers
      perform_does vs (some v) k = goes_on a (assign_typed m.store i.dest v h (k v refl))

    ask_does : Performed ctx i → (o : Option (List Val)) → all_set m.store xs ≡ there o → Does N t m.store i xs (ask ctx i m o)
    unfolding ask
    ask_does k none a = stops_unset a refl
    ask_does k (some vs) a = perform_does a vs (ctx.performs i.code vs) (k vs)

    tell_does : (o : Option (List Val)) → all_set m.store xs ≡ there o → Does N t m.store i xs (tell i m o)
    unfolding tell
    tell_does none a = stops_unset a refl
    tell_does (some vs) a = acknowledged_does a (event_of i vs) m.answers

    leave_does : (o : Option (List Val)) → all_set m.store xs ≡ there o → Does N t m.store i xs (leave i m o)
    unfolding leave happens not_unset
    leave_does none a = stops_unset a refl
    leave_does (some vs) a = stops_set refl tt a h

    -- ---- br
    choose_does : (b c : ℕ) (o : Option Bool) → all_set m.store xs ≡ there o → Does N t m.store i xs (choose b c m o)
    unfolding choose
    choose_does b c none a = stops_unset a refl
    choose_does b c (some true) a = jumps_to a h
    choose_does b c (some false) a = jumps_to a h

  bool_there : (o : Option Val) → ((v : Val) → o ≡ some v → HasType tbool v) → (is_set o && true) ≡ there (bool_in o)
  unfolding is_set
  bool_there none k = refl
  bool_there (some v) k = let (b, e) = bool_held v (k v refl) in rw e refl

  -- ---- every form
  act_does :
      (i : Instr) (m : Mach) (g : Form) →
      form t i ≡ g →
      TypedIn N t m.store →
      All (λ x. x.0 < N) (reads g) →
      Performed ctx i →
      ((e : Expr NameIx) → g ≡ pure e → Typed t e (t i.dest)) →
      ((x : NameIx) (b c : ℕ) → g ≡ branch x b c → t x ≡ tbool) →
      Does N t m.store i (reads g) (act ctx i m g)
  unfolding act reads all_set
  act_does i m (pure e) f h l k p q =
      let typed = p e refl in
      finish_does i m (operands e) h (eval m.store e) (eval_given N t m.store h e (t i.dest) typed l)
      (λ v r. eval_typed t m.store e (t i.dest) typed (λ x u s w. h x (all_elem (λ y. y.0 < N) (operands e) l x w) u s) v r)
      (λ c r.
      let z = eval_stops c m.store e r in
      record { id = refl; dividend = z.dividend; divisor = z.divisor; division = f ∙ ap pure z.is; zero = z.zero })
  act_does i m (new xs) f h l k p q = ask_does i m xs h k (read_all m.store xs) (read_given m.store xs)
  act_does i m (effect xs) f h l k p q = tell_does i m xs h (read_all m.store xs) (read_given m.store xs)
  act_does i m (return xs) f h l k p q = leave_does i m xs h (read_all m.store xs) (read_given m.store xs)
  act_does i m nop f h l k p q = goes_on refl h
  act_does i m (jump b) f h l k p q = jumps_to refl h
  act_does i m (branch a b c) f h l k p q =
      choose_does i m (a ∷ []) h b c (bool_in (m.store a))
      (bool_there (m.store a) (λ v e. subst (λ n. HasType n v) (q a b c refl) (h a l.0 v e)))

  pub step_does :
      (i : Instr) (m : Mach) → FitInstr N t i → Performed ctx i → TypedIn N t m.store →
      Does N t m.store i i.args (step ctx i m)
  unfolding step tick
  step_does i m fit k h =
      subst (λ xs. Does N t m.store i xs (act ctx i (tick m) (form t i))) fit.all_read
      (act_does i (tick m) (form t i) refl h fit.args k fit.typed fit.tested)
