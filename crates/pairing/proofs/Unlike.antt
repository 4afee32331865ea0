-- Demand 3 refuses each wrong rewriting of specs/Wrong.antt: one fact for each clause, so that no clause can be weakened.
-- Beside the facts stand both runs of each, which differ there in that clause alone.
use Prim.Native.Nat.{ℕ, ◌+◌}
use mathlib.Core.Path.{◌≡◌, refl, sym, subst}
use mathlib.Core.Bool.{Bool, cond, not, ◌&&◌}
use mathlib.Core.List.{List, [], ◌∷◌, map}
use mathlib.Core.Option.{Option, none, some}
use native.Mathlib.Omega.{arith}
use mir.Facts.{and_yes}
use lib.ListN.{length, get_or}
use lib.Dec.{T, T_not, eqb, eqb_refl}
use lib.Ieee.Bits.{is_true}
use Rattle.arith.specs.Operation.{by_zero}
use Rattle.arith.specs.Value.{Val, int, float, literal, char, bool, pointer}
use Rattle.arith.specs.Word.{W, least, minus_one}
use Rattle.record.specs.Record.{nm, Function, names_of}
use Rattle.machine.specs.Machine.{Store, Answer, go_on, Event, Stop, at_end, at_ret, at_halt, at_unset, at_division, run}
use Rattle.machine.specs.Reached.{read_no_unset}
use Rattle.machine.specs.Examples.{store_of, event}
use Rattle.pairing.specs.Demand.{Shown, next_block, stop, Agree, Starts, RunAlike}
use Rattle.pairing.specs.Premises.{typed, first_set, all_same}
use Rattle.pairing.specs.Wrong.{Case, run₁, run₂, Seen, seen₁, seen₂, event_id, event_code, event_callee, event_argument, event_arguments, event_order, event_ret, event_less, event_more, value_first, value_middle, value_last, value_for_nothing, nothing_for_value, value_bits, value_literal, next_block_other, end_or_block, none_or_block, stop_id, stop_or_passes, stop_kind, stop_halt, step_more, step_less, filed_more, filed_less, before_stop, behind_stop, filed_elsewhere, passed_other}
use Rattle.pairing.proofs.Instances.{starts_from}
use Rattle.pairing.specs.Opened.{all_of_pairing}

-- ---- from tests that compute to what demand 3 says of one run
-- the one place where the premise of demand 3 is used
pub agree :
    (f g : Function) (σ₁ σ₂ : Store) (xs : List Answer) (n : ℕ) →
    Starts f σ₁ σ₂ →
    T (read_no_unset f σ₁ xs n) →
    RunAlike f g →
    Agree (names_of f) g.blocks (run f σ₁ xs n) (run g σ₂ xs n)
agree f g σ₁ σ₂ xs n s q h = h σ₁ σ₂ s xs n (is_true (read_no_unset f σ₁ xs n) q)

-- every premise of demand 3 in one test
abbrev pub ready : Case → Bool
ready c =
    typed c.first.types c.start₁ && (first_set c.first.args c.start₁ &&
    (all_same (names_of c.first) c.start₁ c.start₂ && read_no_unset c.first (store_of c.start₁) c.world c.many))

-- the two functions of a case do not run alike
abbrev pub Unlike : Case → Type 0
Unlike c = RunAlike c.first c.second → ⊥

-- and if they did, its run would agree
pub alike :
    (c : Case) → T (ready c) → RunAlike c.first c.second →
    Agree (names_of c.first) c.second.blocks (run₁ c) (run₂ c)
alike c t h =
    let (ty, t₁) = and_yes (typed c.first.types c.start₁) _ t in
    let (st, t₂) = and_yes (first_set c.first.args c.start₁) _ t₁ in
    let (sa, q) = and_yes (all_same (names_of c.first) c.start₁ c.start₂) _ t₂ in
    agree c.first c.second (store_of c.start₁) (store_of c.start₂) c.world c.many
    (starts_from c.first c.start₁ c.start₂ ty st sa) q h

-- what is equal looks equal, however it is looked at
pub told : {A : Type 0} (o : A → ℕ) {x y : A} → x ≡ y → T (not (eqb (o x) (o y))) → ⊥
told o {x} {y} e t = T_not (eqb (o x) (o x)) (subst (λ z. T (not (eqb (o x) (o z)))) (sym e) t) (eqb_refl (o x))

-- ---- "the same events in the same order"
abbrev first_event : List Event → Event
first_event es = get_or es 0 (event 0 0 0 [])

abbrev word : Val → ℕ
word (int w) = w
word (float b) = b
word (literal w) = w
word (char c) = c
word (bool b) = 0
word (pointer t b o) = o

abbrev pub first_word : List Event → ℕ
first_word es = word (get_or (first_event es).args 0 (int 0))

pub record Events : Type 0 where
  pub id : Unlike event_id
  pub code : Unlike event_code
  pub callee : Unlike event_callee
  pub argument : Unlike event_argument
  pub arguments : Unlike event_arguments
  pub order : Unlike event_order
  pub ret : Unlike event_ret
  pub less : Unlike event_less
  pub more : Unlike event_more

pub events_refused : Events
unfolding all_of_pairing
events_refused =
    record {
      id = λ h. told (λ es. (first_event es).id) (alike event_id tt h).events tt;
      code = λ h. told (λ es. (first_event es).code) (alike event_code tt h).events tt;
      callee = λ h. told (λ es. (first_event es).callee) (alike event_callee tt h).events tt;
      argument = λ h. told first_word (alike event_argument tt h).events tt;
      arguments = λ h. told (λ es. length (first_event es).args) (alike event_arguments tt h).events tt;
      order = λ h. told (λ es. (first_event es).id) (alike event_order tt h).events tt;
      ret = λ h. told first_word (alike event_ret tt h).events tt;
      less = λ h. told length (alike event_less tt h).events tt;
      more = λ h. told length (alike event_more tt h).events tt;
    }

-- both runs of each, side by side: the events differ, and at the last two the answers left
abbrev pub shows : List Event → List (Option Val) → Shown → List Answer → List ℕ → ℕ → Seen
shows es vs p xs bs n = record { events = es; values = vs; place = p; answers = xs; passed = bs; steps = n }

abbrev pub sides : Case → Seen × Seen
sides c = (seen₁ c, seen₂ c)

abbrev ints_shown : ℕ → List Answer → List Event → Seen
ints_shown n xs es = shows es (some (int 3) ∷ some (int 5) ∷ []) (stop at_end) xs (0 ∷ []) n

pub events_alone :
    map sides
    (event_id ∷ event_code ∷ event_callee ∷ event_argument ∷ event_arguments ∷ event_order ∷ event_ret ∷ event_less ∷ event_more ∷ []) ≡
    (ints_shown 1 (go_on ∷ []) (event 4 68 0 (int 3 ∷ []) ∷ []), ints_shown 1 (go_on ∷ []) (event 5 68 0 (int 3 ∷ []) ∷ [])) ∷
    (ints_shown 1 (go_on ∷ []) (event 4 68 0 (int 3 ∷ []) ∷ []), ints_shown 1 (go_on ∷ []) (event 4 67 0 (int 3 ∷ []) ∷ [])) ∷
    (ints_shown 1 (go_on ∷ []) (event 4 67 1 [] ∷ []), ints_shown 1 (go_on ∷ []) (event 4 67 2 [] ∷ [])) ∷
    (ints_shown 1 (go_on ∷ []) (event 4 68 0 (int 3 ∷ []) ∷ []), ints_shown 1 (go_on ∷ []) (event 4 68 0 (int 5 ∷ []) ∷ [])) ∷
    (ints_shown 1 (go_on ∷ []) (event 4 68 0 (int 3 ∷ []) ∷ []), ints_shown 1 (go_on ∷ []) (event 4 68 0 (int 3 ∷ int 5 ∷ []) ∷ [])) ∷
    (ints_shown 2 [] (event 4 68 0 (int 3 ∷ []) ∷ event 5 68 0 (int 5 ∷ []) ∷ []), ints_shown 2 [] (event 5 68 0 (int 5 ∷ []) ∷ event 4 68 0 (int 3 ∷ []) ∷ [])) ∷
    (shows (event 4 66 0 (int 3 ∷ []) ∷ []) (some (int 3) ∷ some (int 5) ∷ []) (stop at_ret) (go_on ∷ go_on ∷ []) [] 1, shows (event 4 66 0 (int 5 ∷ []) ∷ []) (some (int 3) ∷ some (int 5) ∷ []) (stop at_ret) (go_on ∷ go_on ∷ []) [] 1) ∷
    (ints_shown 2 [] (event 4 68 0 (int 3 ∷ []) ∷ event 5 68 0 (int 3 ∷ []) ∷ []), ints_shown 2 (go_on ∷ []) (event 4 68 0 (int 3 ∷ []) ∷ [])) ∷
    (ints_shown 2 (go_on ∷ []) (event 4 68 0 (int 3 ∷ []) ∷ []), ints_shown 2 [] (event 4 68 0 (int 3 ∷ []) ∷ event 5 68 0 (int 3 ∷ []) ∷ [])) ∷
    []
unfolding all_of_pairing
events_alone = refl

-- ---- "the same value or nothing in every original name"
-- nothing, an int, "that literal", another value
abbrev pub held : Option Val → ℕ
held none = 0
held (some (int w)) = 1 + w
held (some (float b)) = 1 + b
held (some (literal w)) = 1 + W + w
held (some (char c)) = 1 + c
held (some (bool b)) = cond b 2 1
held (some (pointer t b o)) = 1 + o

pub record Values : Type 0 where
  pub first : Unlike value_first
  pub middle : Unlike value_middle
  pub last : Unlike value_last
  pub for_nothing : Unlike value_for_nothing
  pub nothing : Unlike nothing_for_value
  pub bits : Unlike value_bits
  pub literal : Unlike value_literal

pub values_refused : Values
unfolding all_of_pairing
values_refused =
    record {
      first = λ h. told held ((alike value_first tt h).values (nm 0) (omega arith)) tt;
      middle = λ h. told held ((alike value_middle tt h).values (nm 1) (omega arith)) tt;
      last = λ h. told held ((alike value_last tt h).values (nm 2) (omega arith)) tt;
      for_nothing = λ h. told held ((alike value_for_nothing tt h).values (nm 1) (omega arith)) tt;
      nothing = λ h. told held ((alike nothing_for_value tt h).values (nm 1) (omega arith)) tt;
      bits = λ h. told held ((alike value_bits tt h).values (nm 1) (omega arith)) tt;
      literal = λ h. told held ((alike value_literal tt h).values (nm 1) (omega arith)) tt;
    }

abbrev three_shown : Option Val → Option Val → Option Val → Seen
three_shown x y z = shows [] (x ∷ y ∷ z ∷ []) (stop at_end) [] (0 ∷ []) 1

pub values_alone :
    map sides (value_first ∷ value_middle ∷ value_last ∷ value_for_nothing ∷ nothing_for_value ∷ value_bits ∷ value_literal ∷ []) ≡
    (three_shown (some (int 7)) none none, three_shown (some (int 8)) none none) ∷
    (three_shown (some (int 3)) (some (int 7)) none, three_shown (some (int 3)) (some (int 8)) none) ∷
    (three_shown (some (int 3)) none (some (int 7)), three_shown (some (int 3)) none (some (int 8))) ∷
    (three_shown (some (int 3)) none none, three_shown (some (int 3)) (some (int 7)) none) ∷
    (three_shown (some (int 3)) (some (int 7)) none, three_shown (some (int 3)) none none) ∷
    (three_shown (some (int 3)) (some (float 0)) none, three_shown (some (int 3)) (some (float least)) none) ∷
    (three_shown (some (int 3)) (some (float 0)) none, three_shown (some (int 3)) (some (literal 0)) none) ∷
    []
unfolding all_of_pairing
values_alone = refl

-- ---- "the same next block or the same stop"
abbrev pub where_shown : Shown → ℕ
where_shown (next_block b) = 10 + b
where_shown (stop at_end) = 0
where_shown (stop at_ret) = 1
where_shown (stop at_halt) = 2
where_shown (stop at_unset) = 3
where_shown (stop (at_division i c)) = 1000 + i

pub record Places : Type 0 where
  pub next_block : Unlike next_block_other
  pub end : Unlike end_or_block
  pub begin : Unlike none_or_block
  pub id : Unlike stop_id
  pub passes : Unlike stop_or_passes
  pub kind : Unlike stop_kind
  pub halt : Unlike stop_halt

pub places_refused : Places
unfolding all_of_pairing
places_refused =
    record {
      next_block = λ h. told where_shown (alike next_block_other tt h).place tt;
      end = λ h. told where_shown (alike end_or_block tt h).place tt;
      begin = λ h. told where_shown (alike none_or_block tt h).place tt;
      id = λ h. told where_shown (alike stop_id tt h).place tt;
      passes = λ h. told where_shown (alike stop_or_passes tt h).place tt;
      kind = λ h. told where_shown (alike stop_kind tt h).place tt;
      halt = λ h. told where_shown (alike stop_halt tt h).place tt;
    }

abbrev divided_shown : Stop → List ℕ → Seen
divided_shown s bs = shows [] (some (int least) ∷ some (int 0) ∷ some (int minus_one) ∷ none ∷ []) (stop s) [] bs 1

abbrev division_shown : Stop → Seen
division_shown s = divided_shown s []

pub places_alone :
    map sides (next_block_other ∷ end_or_block ∷ none_or_block ∷ stop_id ∷ stop_or_passes ∷ stop_kind ∷ stop_halt ∷ []) ≡
    (shows [] (some (int 3) ∷ []) (next_block 1) [] (0 ∷ []) 1, shows [] (some (int 3) ∷ []) (next_block 2) [] (0 ∷ []) 1) ∷
    (shows [] [] (stop at_end) [] (0 ∷ []) 1, shows [] [] (next_block 1) [] (0 ∷ []) 1) ∷
    (shows [] [] (stop at_end) [] [] 0, shows [] [] (next_block 0) [] [] 0) ∷
    (division_shown (at_division 2 by_zero), division_shown (at_division 3 by_zero)) ∷
    (division_shown (at_division 2 by_zero), divided_shown at_end (0 ∷ [])) ∷
    (division_shown (at_division 2 by_zero), division_shown at_unset) ∷
    (shows (event 1 20 0 [] ∷ []) (none ∷ []) (stop at_halt) [] [] 2, shows (event 1 20 0 [] ∷ []) (none ∷ []) (stop at_unset) [] [] 2) ∷
    []
unfolding all_of_pairing
places_alone = refl

-- ---- "exactly as many more steps as the saves filed"
pub record Steps : Type 0 where
  pub more : Unlike step_more
  pub less : Unlike step_less
  pub filed_more : Unlike filed_more
  pub filed_less : Unlike filed_less
  pub before_stop : Unlike before_stop
  pub behind_stop : Unlike behind_stop
  pub filed_elsewhere : Unlike filed_elsewhere

pub steps_refused : Steps
unfolding all_of_pairing
steps_refused =
    record {
      more = λ h. told (λ k. k) (alike step_more tt h).steps tt;
      less = λ h. told (λ k. k) (alike step_less tt h).steps tt;
      filed_more = λ h. told (λ k. k) (alike filed_more tt h).steps tt;
      filed_less = λ h. told (λ k. k) (alike filed_less tt h).steps tt;
      before_stop = λ h. told (λ k. k) (alike before_stop tt h).steps tt;
      behind_stop = λ h. told (λ k. k) (alike behind_stop tt h).steps tt;
      filed_elsewhere = λ h. told (λ k. k) (alike filed_elsewhere tt h).steps tt;
    }

abbrev steps_shown : Shown → List ℕ → ℕ → Seen
steps_shown p bs n = shows [] (some (int 3) ∷ some (int 0) ∷ []) p [] bs n

pub steps_alone :
    map sides (step_more ∷ step_less ∷ filed_more ∷ filed_less ∷ before_stop ∷ behind_stop ∷ filed_elsewhere ∷ []) ≡
    (steps_shown (stop at_end) (0 ∷ []) 1, steps_shown (stop at_end) (0 ∷ []) 2) ∷
    (steps_shown (stop at_end) (0 ∷ []) 1, steps_shown (stop at_end) (0 ∷ []) 0) ∷
    (steps_shown (stop at_end) (0 ∷ []) 2, steps_shown (stop at_end) (0 ∷ []) 1) ∷
    (steps_shown (stop at_end) (0 ∷ []) 1, steps_shown (stop at_end) (0 ∷ []) 2) ∷
    (steps_shown (stop (at_division 1 by_zero)) [] 1, steps_shown (stop (at_division 1 by_zero)) [] 2) ∷
    (steps_shown (stop (at_division 1 by_zero)) [] 1, steps_shown (stop (at_division 1 by_zero)) [] 2) ∷
    (shows [] (some (int 3) ∷ []) (next_block 1) [] (0 ∷ []) 1, shows [] (some (int 3) ∷ []) (next_block 1) [] (0 ∷ []) 2) ∷
    []
unfolding all_of_pairing
steps_alone = refl

-- ---- the answers left and the blocks passed
-- The answers left follow from the events: they never differ alone. The blocks passed follow from the next blocks of all runs before.
abbrev sum : List ℕ → ℕ
sum [] = 0
sum (n ∷ ns) = n + sum ns

pub record Rests : Type 0 where
  pub answers_less : Unlike event_less
  pub answers_more : Unlike event_more
  pub passed : Unlike passed_other

pub rests_refused : Rests
unfolding all_of_pairing
rests_refused =
    record {
      answers_less = λ h. told length (alike event_less tt h).answers tt;
      answers_more = λ h. told length (alike event_more tt h).answers tt;
      passed = λ h. told sum (alike passed_other tt h).passed tt;
    }

pub passed_alone :
    sides passed_other ≡ (shows [] [] (next_block 3) [] (1 ∷ 0 ∷ []) 2, shows [] [] (next_block 3) [] (2 ∷ 0 ∷ []) 2)
unfolding all_of_pairing
passed_alone = refl
