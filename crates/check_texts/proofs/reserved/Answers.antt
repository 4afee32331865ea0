-- `check_texts::reserved` meets its contract: its tests, in the definition's order.
use mathlib.Core.Path.{◌∙◌}
use native.Mathlib.Omega.{arith}
use borrow.Author.Tests.{lt-leb}
use Rattle.check_texts.proofs.Laws.{reserved_first, reserved_whole, reserved_short, reserved_ends}
use Rattle.check_texts.proofs.reserved.Goals as goal

pub returns-then-not-starts_with : goal.returns-then-not-starts_with
returns-then-not-starts_with c = reserved_first _ _ c.starts_with.ensures.value c.if-not-starts_with.true

pub returns-then-text-e : goal.returns-then-text-e
returns-then-text-e c =
    reserved_whole _ _ c.starts_with.ensures.value _ c.undigited-e.ensures c.if-not-starts_with.false c.if-text-e.true

pub returns-then-e-ge-SHORTEST : goal.returns-then-e-ge-SHORTEST
returns-then-e-ge-SHORTEST c =
    c.ends_lvn.ensures
    ∙ reserved_ends _ _ c.starts_with.ensures.value _ c.undigited-e.ensures c.if-not-starts_with.false (omega arith) (omega arith)

pub returns-else-e-ge-SHORTEST : goal.returns-else-e-ge-SHORTEST
returns-else-e-ge-SHORTEST c =
    lt-leb 6 c.undigited-e.result (omega arith)
    ∙ reserved_short _ _ c.starts_with.ensures.value _ c.undigited-e.ensures c.if-not-starts_with.false (omega arith) (omega arith)
