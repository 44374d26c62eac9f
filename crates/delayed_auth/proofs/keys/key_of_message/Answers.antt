-- `delayed_auth::key_of_message` meets its contract: a named row of a sound book has its key within the store.
use mathlib.Core.Path.{sym, ap, ◌∙◌}
use Rattle.key_book.specs.Book.{Book, book_of, moved_on}
use Rattle.delayed_auth.specs.Key.{key_bytes, key_offset}
use Rattle.delayed_auth.proofs.Naming.{keyed_facts}
use Rattle.delayed_auth.proofs.keys.key_of_message.Goals as goal

pub returns-in-Ok : goal.returns-in-Ok
returns-in-Ok c =
    let b : Book = book_of c.args.ids.now c.args.lengths.now c.args.store.now c.args.marks.now c.args.received.now c.args.sent.now c.args.rows in
    let e = sym c.in-Ok.is ∙ c.named_row.ensures in
    record {
      content = c.key_of.ensures.content ∙ ap (key_bytes b) e;
      place = c.key_of.ensures.place ∙ ap (moved_on _)
          ((keyed_facts b _ _ e).key_start_lem ∙ ap key_offset e);
    }
