use Rattle.std.proofs.Common.{◌≡◌, ◌∙◌, sym, map}
use Rattle.std.specs.FinSet as set
use Rattle.std.proofs.lemmas.Result.{on_ok_weaker}
use Rattle.ppmacro.specs.HideSets.{set_at, hidings}
use Rattle.ppmacro.specs.Substitution.{hsadd}
use Rattle.ppmacro.proofs.NodeHideSets.{insert-hsadd}
use Rattle.ppmacro.proofs.PoolGrowthLemmas.{set-keeps, hidings-keeps}
use Rattle.ppmacro.proofs.substituting.hsadd.hsadd_names.Goals as goal

pub hsadd_all-requires-clause-within : goal.hsadd_all-requires-clause-within
hsadd_all-requires-clause-within c =
    let s = c.args.sets.now in
    let base = set-keeps c.args.base c.in_ok-added.ensures.keeps c.requires.base in
    let added = c.in_ok-added.ensures.set in
    sym (added ∙ insert-hsadd (set_at s c.args.base) c.args.name.now ∙ (λ i. set.union (sym base i) (sym added i)))

pub returns-clause-is : goal.returns-clause-is
returns-clause-is c =
    let s = c.args.sets.now in
    let t = c.with.new.self in
    let tokens = c.args.tokens.now.items in
    let used = c.args.used in
    let made = hidings c.hsadd_all.new.sets c.hsadd_all.new.tokens.items in
    let same = hidings-keeps tokens c.in_ok-added.ensures.keeps c.requires.tokens in
    let more : made ≡ map (hsadd (set_at t c.in_ok-added.added) used) (hidings t tokens)
    → made ≡ map (hsadd (set.insert (set_at s c.args.base) c.args.name.now) used) (hidings s tokens) = λ e.
    e ∙ (λ i. map (hsadd (c.in_ok-added.ensures.set i) used) (same i)) in
    on_ok_weaker c.hsadd_all.result more c.hsadd_all.ensures.is
