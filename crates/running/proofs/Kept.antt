-- What holds of a machine and is kept by counting a step, by setting dest and by adding an event, is kept by every run by steps.
use Prim.Native.Nat.{ℕ, zero, suc}
use mathlib.Core.Path.{◌≡◌, refl}
use mathlib.Core.Bool.{Bool, true, false}
use mathlib.Core.Option.{Option, none, some}
use mathlib.Core.List.{List, [], ◌∷◌}
use lib.ListN.{drop}
use Rattle.arith.specs.Value.{Val, has_type}
use Rattle.arith.specs.Operation.{Expr, Result, ok, stops, unset, eval}
use Rattle.record.specs.declared.NameIx.{NameIx}
use Rattle.record.specs.Record.{Instr, Block}
use Rattle.record.specs.Form.{Form, pure, new, effect, return, nop, jump, branch, form}
use Rattle.record.specs.Good.{Each}
use Rattle.machine.specs.Machine.{Store, Context, Answer, value, go_on, halt, Event, Mach, Step, goes, jumps, ends, tick, assign, happens, read_all, event_of, finish, take_value, answered, perform, ask, acknowledged, tell, leave, choose, bool_in, act, step}
use Rattle.running.specs.Steps.{Stand, facing, over, Config, first_of, land_in, land, moved, step_from, take_step, steps, start}

abbrev pub mach_of : Step → Mach
mach_of (goes m) = m
mach_of (jumps b m) = m
mach_of (ends s m) = m

-- the answers that are left of a list: all, or all but the first
pub data Rest : List Answer → List Answer → Type 0 where
  all_left : (xs : List Answer) → Rest xs xs
  one_taken : (x : Answer) (xs : List Answer) → Rest (x ∷ xs) xs

-- P where the run goes on, and Q where it ends
module _ (P Q : Mach → Type 0) where
  abbrev pub Comes : Step → Type 0
  Comes (goes m) = P m
  Comes (jumps b m) = P m
  Comes (ends s m) = Q m

  -- an event that takes no answer ends the run
  abbrev pub Told : {xs ys : List Answer} → Rest xs ys → Mach → Type 0
  Told (all_left xs) m = Q m
  Told (one_taken x xs) m = P m

module _ (P : Mach → Type 0) where
  comes_either : (s : Step) → Comes P P s → P (mach_of s)
  comes_either (goes m) h = h
  comes_either (jumps b m) h = h
  comes_either (ends s m) h = h

  told_either : {xs ys : List Answer} (r : Rest xs ys) (m : Mach) → P m → Told P P r m
  told_either (all_left xs) m h = h
  told_either (one_taken x xs) m h = h

module _ (ctx : Context) (i : Instr) where
  -- the values that a step may set dest to, from a store: one computed, one that the world gave, or one that the machine performs itself
  pub data Gives (σ : Store) (v : Val) : Type 0 where
    computed : (e : Expr NameIx) → form ctx.types i ≡ pure e → eval σ e ≡ ok v → Gives σ v
    told : (xs : List NameIx) → form ctx.types i ≡ new xs → has_type (ctx.types i.dest) v ≡ true → Gives σ v
    performed : (xs : List NameIx) (vs : List Val) → form ctx.types i ≡ new xs → ctx.performs i.code vs ≡ some v → Gives σ v

  -- the values that an event has
  pub data Shows (σ : Store) (vs : List Val) : Type 0 where
    in_new : (xs : List NameIx) → form ctx.types i ≡ new xs → read_all σ xs ≡ some vs → Shows σ vs
    in_effect : (xs : List NameIx) → form ctx.types i ≡ effect xs → read_all σ xs ≡ some vs → Shows σ vs
    in_return : (xs : List NameIx) → form ctx.types i ≡ return xs → read_all σ xs ≡ some vs → Shows σ vs

  -- setting dest keeps P, and so does an event that takes an answer
  module _
      (P Q : Mach → Type 0)
      (ended : (m : Mach) → P m → Q m)
      (assigned : (m : Mach) (v : Val) → Gives m.store v → P m → P (assign m i.dest v))
      (added :
      (m : Mach) (vs : List Val) (xs : List Answer) → Shows m.store vs → (r : Rest m.answers xs) → P m →
      Told P Q r (happens m (event_of i vs) xs))
    where
      finish_comes : (m : Mach) (r : Result) → P m → ((v : Val) → r ≡ ok v → Gives m.store v) → Comes P Q (finish i m r)
      unfolding finish
      finish_comes m (ok v) h g = assigned m v (g v refl) h
      finish_comes m (stops c) h g = ended m h
      finish_comes m unset h g = ended m h

      take_value_comes : (b : Bool) (m : Mach) (v : Val) → P m → (b ≡ true → Gives m.store v) → Comes P Q (take_value b i m v)
      unfolding take_value
      take_value_comes true m v h g = assigned m v (g refl) h
      take_value_comes false m v h g = ended m h

      answered_comes :
          (t : ℕ) (m : Mach) (e : Event) (xs : List Answer) →
          ((ys : List Answer) (r : Rest xs ys) → Told P Q r (happens m e ys)) →
          ((v : Val) → has_type t v ≡ true → Gives m.store v) →
          Comes P Q (answered t i m e xs)
      unfolding answered happens
      answered_comes t m e [] h g = h [] (all_left [])
      answered_comes t m e (value v ∷ xs) h g =
          take_value_comes (has_type t v) (happens m e xs) v (h xs (one_taken (value v) xs)) (g v)
      answered_comes t m e (go_on ∷ xs) h g = ended (happens m e xs) (h xs (one_taken go_on xs))
      answered_comes t m e (halt ∷ xs) h g = ended (happens m e xs) (h xs (one_taken halt xs))

      perform_comes :
          (t : ℕ) (m : Mach) (vs : List Val) (o : Option Val) →
          P m →
          Shows m.store vs →
          ((v : Val) → has_type t v ≡ true → Gives m.store v) →
          ((v : Val) → o ≡ some v → Gives m.store v) →
          Comes P Q (perform t i m vs o)
      unfolding perform
      perform_comes t m vs (some v) h s g p = assigned m v (p v refl) h
      perform_comes t m vs none h s g p = answered_comes t m (event_of i vs) m.answers (λ ys r. added m vs ys s r h) g

      ask_comes :
          (xs : List NameIx) → form ctx.types i ≡ new xs → (m : Mach) (o : Option (List Val)) → read_all m.store xs ≡ o →
          P m → Comes P Q (ask ctx i m o)
      unfolding ask
      ask_comes xs f m none e h = ended m h
      ask_comes xs f m (some vs) e h =
          perform_comes (ctx.types i.dest) m vs (ctx.performs i.code vs) h (in_new xs f e) (λ v q. told xs f q)
          (λ v q. performed xs vs f q)

      acknowledged_comes :
          (m : Mach) (e : Event) (xs : List Answer) → ((ys : List Answer) (r : Rest xs ys) → Told P Q r (happens m e ys)) →
          Comes P Q (acknowledged m e xs)
      unfolding acknowledged
      acknowledged_comes m e [] h = h [] (all_left [])
      acknowledged_comes m e (value v ∷ xs) h = ended (happens m e xs) (h xs (one_taken (value v) xs))
      acknowledged_comes m e (go_on ∷ xs) h = h xs (one_taken go_on xs)
      acknowledged_comes m e (halt ∷ xs) h = ended (happens m e xs) (h xs (one_taken halt xs))

      tell_comes : (m : Mach) (o : Option (List Val)) → ((vs : List Val) → o ≡ some vs → Shows m.store vs) → P m → Comes P Q (tell i m o)
      unfolding tell
      tell_comes m none s h = ended m h
      tell_comes m (some vs) s h = acknowledged_comes m (event_of i vs) m.answers (λ ys r. added m vs ys (s vs refl) r h)

      leave_comes : (m : Mach) (o : Option (List Val)) → ((vs : List Val) → o ≡ some vs → Shows m.store vs) → P m → Comes P Q (leave i m o)
      unfolding leave
      leave_comes m none s h = ended m h
      leave_comes m (some vs) s h = added m vs m.answers (s vs refl) (all_left m.answers) h

      choose_comes : (b c : ℕ) (m : Mach) (o : Option Bool) → P m → Comes P Q (choose b c m o)
      unfolding choose
      choose_comes b c m none h = ended m h
      choose_comes b c m (some true) h = h
      choose_comes b c m (some false) h = h

      act_comes : (m : Mach) (f : Form) → form ctx.types i ≡ f → P m → Comes P Q (act ctx i m f)
      unfolding act
      act_comes m (pure e) f h = finish_comes m (eval m.store e) h (λ v q. computed e f q)
      act_comes m (new xs) f h = ask_comes xs f m (read_all m.store xs) refl h
      act_comes m (effect xs) f h = tell_comes m (read_all m.store xs) (λ vs q. in_effect xs f q) h
      act_comes m (return xs) f h = leave_comes m (read_all m.store xs) (λ vs q. in_return xs f q) h
      act_comes m nop f h = h
      act_comes m (jump b) f h = h
      act_comes m (branch a b c) f h = choose_comes b c m (bool_in (m.store a)) h

      pub step_comes : (m : Mach) → P (tick m) → Comes P Q (step ctx i m)
      unfolding step
      step_comes m h = act_comes (tick m) (form ctx.types i) refl h

  -- "A step does one instruction and counts one, also when it stops."
  pub step_counts : (m : Mach) → (mach_of (step ctx i m)).steps ≡ suc m.steps
  unfolding tick assign happens
  step_counts m =
      let P : Mach → Type 0 = λ n. n.steps ≡ suc m.steps in
      comes_either P (step ctx i m)
      (step_comes P P (λ n h. h) (λ n v g h. h) (λ n vs xs s r h. told_either P r (happens n (event_of i vs) xs) h) m refl)

  -- what a step of i does to a machine keeps P
  pub record Keeps (P : Mach → Type 0) : Type 0 where
    pub ticked : (m : Mach) → P m → P (tick m)
    pub assigned : (m : Mach) (v : Val) → Gives m.store v → P m → P (assign m i.dest v)
    pub added : (m : Mach) (vs : List Val) (xs : List Answer) → Shows m.store vs → Rest m.answers xs → P m → P (happens m (event_of i vs) xs)

  pub step_keeps : (P : Mach → Type 0) → Keeps P → (m : Mach) → P m → P (mach_of (step ctx i m))
  step_keeps P k m h =
      comes_either P (step ctx i m)
      (step_comes P P (λ n h. h) k.assigned
      (λ n vs xs s r h. told_either P r (happens n (event_of i vs) xs) (k.added n vs xs s r h)) m (k.ticked m h))

-- ---- a run; Q: what the instructions of the blocks satisfy
module _ (ctx : Context) (P : Mach → Type 0) (Q : Instr → Type 0) (k : (i : Instr) → Q i → Keeps ctx i P) where
  abbrev All : List Instr → Type 0
  All is = Each (λ left i. Q i) is

  abbrev AllIn : List (Block Instr) → Type 0
  AllIn bs = Each (λ left b. All b.body) bs

  -- what is still to be done in the block
  abbrev Stands : Stand → Type 0
  Stands (facing b i is) = All (i ∷ is)
  Stands (over s) = Unit {0}

  first_stands : (b : ℕ) (is : List Instr) (other : Stand) → All is → Stands other → Stands (first_of b is other)
  first_stands b [] other h o = o
  first_stands b (i ∷ is) other h o = h

  land_in_stands : (b : ℕ) (bs : List (Block Instr)) → AllIn bs → Stands (land_in b bs)
  unfolding land_in
  land_in_stands b [] h = tt
  land_in_stands b (x ∷ bs) h = first_stands b x.body (land_in (suc b) bs) h.0 (land_in_stands (suc b) bs h.1)

  drop_all : (b : ℕ) (bs : List (Block Instr)) → AllIn bs → AllIn (drop b bs)
  drop_all zero bs h = h
  drop_all (suc b) [] h = tt
  drop_all (suc b) (x ∷ bs) h = drop_all b bs h.1

  module _ (bs : List (Block Instr)) (all : AllIn bs) where
    land_stands : (b : ℕ) → Stands (land bs b)
    unfolding land
    land_stands b = land_in_stands b (drop b bs) (drop_all b bs all)

    abbrev Fine : Config → Type 0
    Fine c = Stands c.stand × P c.mach

    moved_fine : (b : ℕ) (is : List Instr) (s : Step) → All is → P (mach_of s) → Fine (moved bs b is s)
    moved_fine b is (goes m) h p = (first_stands b is (land bs (suc b)) h (land_stands (suc b)), p)
    moved_fine b is (jumps c m) h p = (land_stands c, p)
    moved_fine b is (ends s m) h p = (tt, p)

    from_fine : (m : Mach) (d : Stand) → Stands d → P m → Fine (step_from ctx bs m d)
    from_fine m (facing b i is) h p = moved_fine b is (step ctx i m) h.1 (step_keeps ctx i P (k i h.0) m p)
    from_fine m (over s) h p = (tt, p)

    steps_fine : (n : ℕ) (c : Config) → Fine c → Fine (steps ctx bs n c)
    unfolding steps take_step
    steps_fine zero c h = h
    steps_fine (suc n) c h = steps_fine n (take_step ctx bs c) (from_fine c.mach c.stand h.0 h.1)

    -- what holds at the start holds after any number of steps
    pub steps_keep :
        (n : ℕ) (σ : Store) (xs : List Answer) → P (record { store = σ; answers = xs; events = []; steps = 0 }) →
        P (steps ctx bs n (start bs σ xs)).mach
    unfolding start
    steps_keep n σ xs p = (steps_fine n (start bs σ xs) (land_stands 0, p)).1
