use Rattle.std.proofs.Common.{◌∙◌, ◌<◌, length, get_or, sym, ap, subst, arith, None}
use Rattle.ppmacro.proofs.PlainLists.{count-entries, entry-at}
use Rattle.ppmacro.specs.Entries.{entry_at}
use Rattle.ppmacro.proofs.patterns.PlainList.at.Goals as goal

pub bounds-body-index : goal.bounds-body-index
bounds-body-index c = subst (λ n. c.args.index < n) (ap length (sym c.self.view_is) ∙ count-entries c.self.inside.uses.now c.self.inside.body.now) c.requires

pub offset_bounds-body-index : goal.offset_bounds-body-index
offset_bounds-body-index c =
    let below = subst (λ n. c.args.index < n) (ap length (sym c.self.view_is) ∙ count-entries c.self.inside.uses.now c.self.inside.body.now) c.requires in
    omega (arith, below, c.self.told)

pub returns-in-Some : goal.returns-in-Some
returns-in-Some c = λ e.
    let i = c.args.index in
    let us = c.self.inside.uses.now in
    let ts = c.self.inside.body.now in
    let t = c.index-body-index.result in
    let below = subst (λ n. i < n) (ap length (sym c.self.view_is) ∙ count-entries us ts) c.requires in
    (λ j. entry_at ((sym c.in-Some.is ∙ c.use_at.ensures) j) (c.index-body-index.is j)) ∙ entry-at us ts i t e below ∙ ap (λ es. get_or es i e) c.self.view_is

pub returns-in-None : goal.returns-in-None
returns-in-None c = λ e.
    let i = c.args.index in
    let us = c.self.inside.uses.now in
    let ts = c.self.inside.body.now in
    let t = c.index-body-index.result in
    let below = subst (λ n. i < n) (ap length (sym c.self.view_is) ∙ count-entries us ts) c.requires in
    ap (entry_at None) c.new.ensures ∙ (λ j. entry_at ((sym c.in-None.is ∙ c.use_at.ensures) j) (c.index-body-index.is j)) ∙ entry-at us ts i t e below ∙ ap (λ es. get_or es i e) c.self.view_is
