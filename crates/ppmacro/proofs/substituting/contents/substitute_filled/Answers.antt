use Rattle.std.proofs.Common.{◌≡◌, ◌∙◌, map, sym, ap, subst}
use Rattle.std.specs.FinSet as set
use Rattle.pptext.specs.Errors.{Returns}
use Rattle.ppmacro.specs.HideSets.{set_at, hidings}
use Rattle.ppmacro.specs.Substitution.{Arguments, after_ok, with_contents, chains_replacement, filled_replacement}
use Rattle.ppmacro.specs.Substituting.{lists_of, ListsKnown, ArgumentsKnown, arguments_in, as_replacement}
use Rattle.ppmacro.proofs.PoolGrowthLemmas.{set-keeps}
use Rattle.ppmacro.proofs.ChainReplacementLemmas.{arguments-keeps, arguments-known}
use Rattle.ppmacro.proofs.substituting.contents.substitute_filled.Goals as goal

pub substitute_chains-requires-clause-arguments : goal.substitute_chains-requires-clause-arguments
substitute_chains-requires-clause-arguments c =
    let t = c.contents_tokens.new.sets in
    let known = arguments-known c.args.arguments.given.now c.args.arguments.expanded.now c.in_ok-lists.ensures.keeps c.requires.arguments in
    let lists : ListsKnown t c.as_slice.result.now = subst (ListsKnown t) (sym c.as_slice.ensures.value) c.in_ok-lists.ensures.known in
    let all = c.in_ok-all.ensures.known t known lists in
    subst (λ given. ArgumentsKnown t given c.as_slice-3.result.now) (sym c.as_slice-2.ensures.value)
    (subst (ArgumentsKnown t c.in_ok-all.all.given.items) (sym c.as_slice-3.ensures.value) all)

pub returns-clause-is : goal.returns-clause-is
returns-clause-is c =
    let s = c.args.sets.now in
    let t = c.contents_tokens.new.sets in
    let name = c.args.macro_name.now in
    let list = c.args.list.now in
    let args : Arguments = arguments_in s c.args.arguments.given.now c.args.arguments.expanded.now in
    let added = set.insert (set_at s name.base) name.name.now in
    let kept = arguments-keeps c.args.arguments.given.now c.args.arguments.expanded.now c.in_ok-lists.ensures.keeps c.requires.arguments in
    let all : arguments_in t c.as_slice-2.result.now c.as_slice-3.result.now ≡ with_contents args (map (hidings t) (lists_of c.in_ok-lists.lists.items)) =
    (λ i. arguments_in t (c.as_slice-2.ensures.value i) (c.as_slice-3.ensures.value i))
    ∙ c.in_ok-all.ensures.is t
    ∙ (λ i. with_contents (kept i) (map (hidings t) (lists_of (c.as_slice.ensures.value i)))) in
    let is : chains_replacement c.if_filled.result (arguments_in t c.as_slice-2.result.now c.as_slice-3.result.now) (set.insert (set_at t name.base) name.name.now) name.used name.space
    ≡ filled_replacement list args added name.used name.space =
    (λ i. chains_replacement (c.if_filled.ensures i) (all i) (set.insert (set-keeps name.base c.in_ok-lists.ensures.keeps c.requires.base i) name.name.now) name.used name.space)
    ∙ ap (λ r. after_ok r (λ ls. chains_replacement list.if_filled (with_contents args ls) added name.used name.space)) c.in_ok-lists.ensures.is in
    subst (Returns c.substitute_chains.result (λ m. as_replacement c.substitute_chains.new.sets m.0.items m.1)) is c.substitute_chains.ensures.is
