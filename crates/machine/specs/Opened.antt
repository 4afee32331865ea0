-- One name for the definitions that examples of runs compute with: `unfolding all_of_machine` unfolds each of them.
use Rattle.record.specs.Opened.{all_of_record}
use Rattle.machine.specs.Machine.{tick, assign, happens, read_all, finish, take_value, answered, perform, ask, acknowledged, tell, leave, choose, act, step, run_block, nth, arrive, passes, through, advance_from, advance, begin, iterate, run_with, run}
use Rattle.machine.specs.Reached.{reached_in, reached_from, reached_with, reached, is_set, all_set, none_unset, read_no_unset}

unfoldable pub all_of_machine : Type 0
unfolding all_of_record tick assign happens read_all finish take_value answered perform ask acknowledged tell leave choose act step run_block nth arrive passes through advance_from advance begin iterate run_with run reached_in reached_from reached_with reached is_set all_set none_unset read_no_unset
all_of_machine = Unit
