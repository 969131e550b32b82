use Rattle.std.proofs.Common.{rules, ◌∙◌, sym}
use Rattle.std.specs.Str.{bytes_eq}
use Rattle.std.proofs.lemmas.Iterator.{YieldsList-from_slice}
use Rattle.std.proofs.lemmas.Iterator.Search.{any_from_yields_List}
use Rattle.ppserve.proofs.ObjectMembers.{list_any-map}
use Rattle.ppserve.proofs.list.drafts.is_among.Goals as goal
use borrow.Author.Tests.{tests}

pub returns : goal.returns
returns c = any_from_yields_List (λ n. bytes_eq c.args.text.now n.now) _ _ _ c.any.ensures.ran
    (YieldsList-from_slice c.args.names.now c.iter.ensures.rest)
    (λ x b q k. search (rules, tests))
    ∙ sym (list_any-map (bytes_eq c.args.text.now) (λ n. n.now) c.args.names.now)
