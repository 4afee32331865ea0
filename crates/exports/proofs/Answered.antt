-- What is told of rewrite and of figures is their answer.
use Rattle.std.specs.Prelude.{◌≡◌, Ok, Err}
use mathlib.Core.Path.{refl}
use Rattle.numbering.specs.Rewrite.{Rewritten, rewrite_answer}
use Rattle.numbering.specs.Figures.{Figured, figures_answer}
use Rattle.exports.specs.Values.{told_as}

pub rewrite_told : (r : Rewritten) → told_as (λ e. rewrite_answer (Err e)) r ≡ rewrite_answer r
unfolding told_as rewrite_answer
rewrite_told (Ok t) = refl
rewrite_told (Err e) = refl

pub figures_told : (r : Figured) → told_as (λ e. figures_answer (Err e)) r ≡ figures_answer r
unfolding told_as figures_answer
figures_told (Ok t) = refl
figures_told (Err e) = refl
