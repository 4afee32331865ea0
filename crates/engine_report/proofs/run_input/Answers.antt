-- `engine_report::run_input` meets its contract: its parts are where the definition has them.
use Rattle.engine_report.proofs.Shown.{input_shown}
use Rattle.engine_report.proofs.run_input.Goals as goal

pub returns : goal.returns
returns c = input_shown _ _ _ _ _ _ c.requires c.part_end-a.ensures.0 c.part_end-b.ensures.0 c.part_end-c.ensures.0
    c.run_from.ensures
