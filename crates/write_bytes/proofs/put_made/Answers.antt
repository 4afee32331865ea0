-- `write_bytes::put_made` meets its contract: the text is written first, and its length then in front of it.
use borrow.Author.Rules.{rules}
use Rattle.write_bytes.proofs.Made.{name_wrote}
use Rattle.numbering.specs.Made.{made_text}
use Rattle.write_bytes.proofs.put_made.Goals as goal

pub returns : goal.returns
returns c = let a = c.args in
    let t = made_text a.text.now a.k in
    (name_wrote a.ty t c.put_u8.ensures c.put_made_text-end.ensures.0 c.put_u8-2.ensures, search rules)
