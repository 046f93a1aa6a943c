use Rattle.std.proofs.Common.{◌∙◌, map}
use Rattle.counting.proofs.BookLemmas.{book_empty, unseen_texts}
use Rattle.counting.proofs.book.Book.new.Goals as goal

pub returns : goal.returns
returns c = book_empty (map (λ t. t.now) c.args.texts.now) c.new.result c.in_ok-finds_of.field-0.items c.zero.result c.new.ensures (c.in_ok-finds_of.ensures ∙ unseen_texts c.args.texts.now) c.zero.ensures
