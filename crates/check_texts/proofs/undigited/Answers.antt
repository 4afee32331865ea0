-- `check_texts::undigited` meets its contract: by the last byte that is no digit.
use borrow.Author.Rules.{rules}
use Rattle.check_texts.proofs.Laws.{last_at, last_none}
use Rattle.check_texts.proofs.undigited.Goals as goal

pub returns-in-Some : goal.returns-in-Some
returns-in-Some c = last_at c.args.text.now c.in-Some.last (search rules) (search rules) (search rules)

pub returns-in-None : goal.returns-in-None
returns-in-None c = last_none c.args.text.now (search rules)
