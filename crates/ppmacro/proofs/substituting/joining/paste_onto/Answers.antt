use Rattle.std.proofs.Common.{◌≡◌, ◌∙◌, refl, ap, subst, if◌then◌else◌}
use Rattle.pptext.specs.Continuations.{ContinuesToken}
use Rattle.ppmacro.specs.HiddenView.{extended}
use Rattle.ppmacro.proofs.SpelledKindLemmas.{carried-has_spelled_kind, carried-pasted, paste-has_spelled_kind}
use Rattle.ppmacro.proofs.substituting.joining.paste_onto.Goals as goal

module _ (c : goal.After-set_use) where
  more : ContinuesToken c.args.last.token.kind c.args.last.token.text c.args.first.now.token.text
  more = subst (ContinuesToken c.args.last.token.kind c.args.last.token.text) c.text.ensures (c.if-is_continued.ensures.more refl)

  grown : c.extend.new.self ≡ extended c.args.last c.args.first.now.token.text
  grown =
      c.in_ok-extend.ensures
      ∙ ap (λ made. if made then extended c.args.last c.text-then-is_continued.result.now else c.args.last) c.if-branch.true
      ∙ ap (extended c.args.last) c.text-then-is_continued.ensures

pub returns-then-branch-clause-is : goal.returns-then-branch-clause-is
returns-then-branch-clause-is c =
    carried-pasted c.args.last c.args.first.now c.extend.new.self c.set_use.new.self c.in_ok-hide.hide c.args.used
    (c.requires.has_spelled_kind (c.if-is_continued.ensures.has_spelled_kind refl)) (more c) (grown c) c.set_use.ensures c.args.sets.now
    c.common_hide_set.new.self c.in_ok-hide.ensures.set

pub returns-then-branch-clause-has_spelled_kind : goal.returns-then-branch-clause-has_spelled_kind
returns-then-branch-clause-has_spelled_kind c =
    carried-has_spelled_kind c.args.last c.args.first.now c.extend.new.self c.set_use.new.self c.in_ok-hide.hide c.args.used
    (c.requires.has_spelled_kind (c.if-is_continued.ensures.has_spelled_kind refl)) (more c) (grown c) c.set_use.ensures

pub returns-clause-has_spelled_kind : goal.returns-clause-has_spelled_kind
returns-clause-has_spelled_kind c = paste-has_spelled_kind c.args.sets.now c.paste.new.sets _ c.args.first.now c.args.used c.paste.result c.paste.ensures.is
