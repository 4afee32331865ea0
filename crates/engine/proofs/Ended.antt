-- How a run ended, by where it stands.
use Prim.Native.Nat.{ℕ, ◌<◌}
use mathlib.Core.Path.{◌≡◌, refl, sym, ap, ◌∙◌}
use mathlib.Core.Logic.{◌≢◌}
use mathlib.Core.List.{List}
use Rattle.std.proofs.Common.{Result, Ok, Err}
use Rattle.record.specs.Record.{Instr}
use Rattle.record.specs.Decode.{id_width}
use Rattle.record.proofs.Again.{instrs_more}
use Rattle.machine.specs.Machine.{at_end}
use Rattle.running.specs.declared.Ending.{Ending}
use Rattle.running.specs.declared.Ending.TheVariants.{Limit}
use Rattle.running.specs.declared.RunError.{RunError}
use Rattle.running.specs.declared.RunError.TheVariants as error
use Rattle.running.specs.Steps.{over, first_of}
use Rattle.running.specs.Engine.{stop_ending, ending_of}
use Rattle.engine_quiet.specs.declared.Ground.{Ground}
use Rattle.engine_quiet.specs.declared.Over.{Over}
use Rattle.engine_quiet.specs.declared.Over.TheVariants.{End, Ret, Halt, Unset, Division, Unfit}
use Rattle.engine_quiet.specs.declared.Spot.{Spot}
use Rattle.engine_quiet.specs.Spot.{stop_by, stand_of, Standing}
use Rattle.engine.specs.Opened.{ended_by}

by_limit : (s : List ℕ) (p : Spot) → 0 < p.left → Limit ≡ ending_of (stand_of s (Ok p))
by_limit s p h =
    sym (ap (λ (is : List Instr). ending_of (first_of p.block is (over at_end))) (instrs_more (id_width s) s p.at p.left h))

-- so it is where it fits
pub ended_fit :
    (g : Ground) (r : Result Spot Over) (how : Ending) → Standing g r → ended_by r ≡ Ok how →
    (how ≡ ending_of (stand_of g.s.now r)) × (r ≢ Err Unfit)
unfolding stop_by stop_ending
ended_fit g (Ok p) how st e = (sym (cc e) ∙ by_limit g.s.now p st.some, λ u. cc u)
ended_fit g (Err End) how st e = (sym (cc e), λ u. cc u)
ended_fit g (Err Ret) how st e = (sym (cc e), λ u. cc u)
ended_fit g (Err Halt) how st e = (sym (cc e), λ u. cc u)
ended_fit g (Err Unset) how st e = (sym (cc e), λ u. cc u)
ended_fit g (Err (Division id)) how st e = (sym (cc e), λ u. cc u)
ended_fit g (Err Unfit) how st e = absurd (cc e)

-- and where it does not
pub ended_unfit : (r : Result Spot Over) (k : RunError) → ended_by r ≡ Err k → (r ≡ Err Unfit) × (k ≡ error.Unfit)
ended_unfit (Ok p) k e = absurd (cc e)
ended_unfit (Err End) k e = absurd (cc e)
ended_unfit (Err Ret) k e = absurd (cc e)
ended_unfit (Err Halt) k e = absurd (cc e)
ended_unfit (Err Unset) k e = absurd (cc e)
ended_unfit (Err (Division id)) k e = absurd (cc e)
ended_unfit (Err Unfit) k e = (refl, sym (cc e))
