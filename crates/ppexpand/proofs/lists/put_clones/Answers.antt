use Rattle.std.proofs.Common.{◌≡◌, ◌∙◌, ◌++◌, ap}
use Rattle.std.specs.List.{AppendsClones, each_same}
use Rattle.std.proofs.lemmas.Result.{on_ok_weaker}
use Rattle.ppexpand.proofs.lists.put_clones.Goals as goal

pub returns : goal.returns
returns c =
    let front = c.args.tokens.now.items in
    let whole = c.extend_with_clones.new.self.items in
    let more = c.args.more.now in
    let same : AppendsClones (λ a b. b ≡ a) front whole more → whole ≡ front ++ more = λ h. h.1 ∙ ap (λ ys. front ++ ys) (each_same more h.0 h.2) in
    on_ok_weaker c.extend_with_clones.result same c.extend_with_clones.ensures.items
