-- Demand 3 refuses each wrong rewriting of specs/Rare.antt, which only a rare store, list of answers or number of blocks shows:
-- it cannot be narrowed to fewer of them.
use Prim.Native.Nat.{ℕ}
use mathlib.Core.Path.{◌≡◌, refl}
use mathlib.Core.List.{[], ◌∷◌, map}
use mathlib.Core.Option.{some}
use native.Mathlib.Omega.{arith}
use lib.ListN.{length}
use Rattle.arith.specs.Value.{int}
use Rattle.record.specs.Record.{nm}
use Rattle.machine.specs.Machine.{Store, go_on}
use Rattle.pairing.specs.Demand.{Starts, RunAlike}
use Rattle.pairing.specs.Wrong.{seen₁, seen₂}
use Rattle.pairing.specs.Rare.{copies_unread, copies_early, greatest_argument, rare_argument, false_argument, equal_not_greater, equal_not_less, not_swapped, least_argument, phi_exchanged, phi_merged, reads_made, greatest_answer, writes_early, behind_answers, takes_bool, second_block, behind_loop, ordinary}
use Rattle.pairing.proofs.Unlike.{agree, alike, Unlike, told, first_word, held, where_shown}
use Rattle.pairing.specs.Opened.{all_of_pairing}

pub record Rare : Type 0 where
  pub unread : Unlike copies_unread
  pub early : Unlike copies_early
  pub argument : Unlike greatest_argument
  pub rare : Unlike rare_argument
  pub is_false : Unlike false_argument
  pub greater : Unlike equal_not_greater
  pub greater_equal : Unlike equal_not_less
  pub swapped : Unlike not_swapped
  pub least : Unlike least_argument
  pub exchanged : Unlike phi_exchanged
  pub merged : Unlike phi_merged
  pub answer : Unlike greatest_answer
  pub halted : Unlike writes_early
  pub answered : Unlike behind_answers
  pub ill_fitting : Unlike takes_bool
  pub two_blocks : Unlike second_block
  pub more_blocks : Unlike behind_loop

pub rare_refused : Rare
unfolding all_of_pairing
rare_refused =
    record {
      unread = λ h. told length (alike copies_unread tt h).events tt;
      early = λ h. told held ((alike copies_early tt h).values (nm 0) (omega arith)) tt;
      argument = λ h. told held ((alike greatest_argument tt h).values (nm 3) (omega arith)) tt;
      rare = λ h. told held ((alike rare_argument tt h).values (nm 2) (omega arith)) tt;
      is_false = λ h. told held ((alike false_argument tt h).values (nm 2) (omega arith)) tt;
      greater = λ h. told held ((alike equal_not_greater tt h).values (nm 2) (omega arith)) tt;
      greater_equal = λ h. told held ((alike equal_not_less tt h).values (nm 2) (omega arith)) tt;
      swapped = λ h. told held ((alike not_swapped tt h).values (nm 2) (omega arith)) tt;
      least = λ h. told held ((alike least_argument tt h).values (nm 4) (omega arith)) tt;
      exchanged = λ h. told first_word (alike phi_exchanged tt h).events tt;
      merged = λ h. told length (alike phi_merged tt h).events tt;
      answer = λ h. told held ((alike greatest_answer tt h).values (nm 3) (omega arith)) tt;
      halted = λ h. told held ((alike writes_early tt h).values (nm 1) (omega arith)) tt;
      answered = λ h. told held ((alike behind_answers tt h).values (nm 1) (omega arith)) tt;
      ill_fitting = λ h. told where_shown (alike takes_bool tt h).place tt;
      two_blocks = λ h. told held ((alike second_block tt h).values (nm 0) (omega arith)) tt;
      more_blocks = λ h. told held ((alike behind_loop tt h).values (nm 0) (omega arith)) tt;
    }

-- what else the same functions do
pub ordinary_alike : map seen₁ ordinary ≡ map seen₂ ordinary
unfolding all_of_pairing
ordinary_alike = refl

-- made names may hold anything: other things in the two stores, from which demand 3 starts
abbrev all_hold : ℕ → Store
all_hold w x = some (int w)

starts_bare : (w v : ℕ) → Starts reads_made (all_hold w) (all_hold v)
starts_bare w v =
    record {
      typed = λ x l. absurd (omega arith);
      set = λ x l. absurd (omega arith);
      same = λ x l. absurd (omega arith);
    }

pub made_names_differ : RunAlike reads_made reads_made → ⊥
unfolding all_of_pairing
made_names_differ h = told first_word (agree reads_made reads_made (all_hold 3) (all_hold 5) (go_on ∷ []) 1 (starts_bare 3 5) tt h).events tt
