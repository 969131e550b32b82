use Rattle.std.proofs.Common.{refl}
use Rattle.ppmacro.specs.declared.hidden_token.ArgumentExpansion.TheVariants.{Unused}
use Rattle.ppmacro.proofs.ContentArguments.{arguments-with, arguments-with-known, lists-laid, expansions-laid}
use Rattle.ppmacro.proofs.substituting.contents.with_contents.Goals as goal

pub returns-clause-is : goal.returns-clause-is
returns-clause-is c = λ sets.
    let gs = lists-laid c.new-given.result.items c.push_given.new.copy.items c.push.new.self.items c.push_given-2.new.copy.items c.args.arguments.given.now c.args.lists.now c.new.result
    c.new-given.ensures.items c.in_ok-push_given.ensures c.in_ok-push.ensures.items c.new.ensures.items c.in_ok-push_given-2.ensures in
    let es = expansions-laid c.args.arguments.given.now c.args.lists.now c.push_given-2.new.copy.items c.push_expanded.new.copy.items c.push-2.new.self.items c.push_lists.new.expanded.items
    c.args.arguments.expanded.now Unused c.in_ok-push_expanded.ensures c.in_ok-push-2.ensures.items (λ g. refl) c.in_ok-push_lists.ensures in
    arguments-with sets c.args.arguments.given.now c.args.lists.now c.push_given-2.new.copy.items c.args.arguments.expanded.now c.push_lists.new.expanded.items gs es

pub returns-clause-known : goal.returns-clause-known
returns-clause-known c = λ sets known lists.
    let gs = lists-laid c.new-given.result.items c.push_given.new.copy.items c.push.new.self.items c.push_given-2.new.copy.items c.args.arguments.given.now c.args.lists.now c.new.result
    c.new-given.ensures.items c.in_ok-push_given.ensures c.in_ok-push.ensures.items c.new.ensures.items c.in_ok-push_given-2.ensures in
    let es = expansions-laid c.args.arguments.given.now c.args.lists.now c.push_given-2.new.copy.items c.push_expanded.new.copy.items c.push-2.new.self.items c.push_lists.new.expanded.items
    c.args.arguments.expanded.now Unused c.in_ok-push_expanded.ensures c.in_ok-push-2.ensures.items (λ g. refl) c.in_ok-push_lists.ensures in
    arguments-with-known sets c.args.arguments.given.now c.args.lists.now c.push_given-2.new.copy.items c.args.arguments.expanded.now c.push_lists.new.expanded.items gs es known lists
