use Rattle.std.proofs.Common.{rules, ◌∙◌, map, string_bytes}
use Rattle.std.proofs.lemmas.Iterator.Consumers.{YieldsList-from_rest}
use Rattle.std.proofs.lemmas.Iterator.Search.{all_from_yields_List}
use Rattle.std.specs.Map.{keys_of}
use Rattle.ppserve.specs.Shape.{is_one_of}
use Rattle.ppserve.proofs.ObjectMembers.{has_only-keys}
use Rattle.ppserve.proofs.list.drafts.has_only.Goals as goal
use borrow.Author.Tests.{tests}

pub returns : goal.returns
returns c = all_from_yields_List (λ k. is_one_of (string_bytes k) (map (λ n. n.now) c.args.names.now)) _ _ _ c.all.ensures.ran
    (YieldsList-from_rest (keys_of c.args.members.now.entries) c.keys.ensures.rest)
    (λ x b q k. search (rules, tests))
    ∙ has_only-keys (map (λ n. n.now) c.args.names.now) c.args.members.now.entries
