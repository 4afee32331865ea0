-- One name for the definitions that examples of demand 3 compute with: `unfolding all_of_pairing` unfolds each of them.
use Rattle.numbering.specs.Opened.{all_of_numbering}
use Rattle.machine.specs.Opened.{all_of_machine}
use Rattle.pairing.specs.Premises.{are_bytes, typed, first_set, all_same}
use Rattle.pairing.specs.Demand.{saves_passed, saves_before, count_dests, shown}

unfoldable pub all_of_pairing : Type 0
unfolding all_of_numbering all_of_machine are_bytes typed first_set all_same saves_passed saves_before count_dests shown
all_of_pairing = Unit
