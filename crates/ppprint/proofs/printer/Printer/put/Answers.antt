use Rattle.std.proofs.Common.{◌≡◌, ◌+◌, ◌&&◌, refl, sym, ap, ◌∙◌, length}
use Rattle.std.specs.Prelude.{min, is_none}
use Rattle.ppprint.specs.Text.{Line, is_hash_text, spaces_before, space_after}
use Rattle.ppprint.specs.code.Printers.{line_of}
use Rattle.ppprint.specs.code.Tokens.{printed_token}
use Rattle.ppprint.proofs.TokenLengths.{line_after_is}
use Rattle.ppprint.proofs.printer.Printer.put.Goals as goal
use Rattle.ppprint.proofs.printer.Printer.put.Goals.{then-is_first, else-is_first}

pub returns-clause-line : goal.returns-clause-line
returns-clause-line c =
    let t = printed_token c.args.token in
    let l = c.args.self.now.line in
    let line : line_of c.self.inside ≡ l = ap (λ p. p.line) c.self.view_is in
    let text : c.written-written.result.text.now ≡ t.text = ap (λ w. w.text) c.written-written.ensures in
    let first : is_none l.last ≡ c.args.is_first = sym c.requires.first in
    let closed : c.if-is_first.self ≡ (is_none l.last && is_hash_text t.text) = elim c.if-is_first.branch [
      | then-is_first w ↦ w.self-is ∙ w.is_hash-self-inside.ensures ∙ ap is_hash_text text ∙ sym (ap (λ b. b && is_hash_text t.text) (first ∙ w.if-is_first.true))
      | else-is_first w ↦ w.self-is ∙ w.if-is_first.false ∙ sym (ap (λ b. b && is_hash_text t.text) (first ∙ w.if-is_first.false))
    ] in
    let before : c.self.inside.columns ≡ l.columns = ap (λ (x : Line). x.columns) line in
    let spaces : c.args.spaces ≡ spaces_before l t = c.requires.spaces in
    let long : length c.written-written.result.text.now ≡ length t.text = ap length text in
    let after : c.space_after.result ≡ space_after t.text = c.space_after.ensures ∙ ap space_after text in
    let columns : c.min-self-inside.result ≡ min (l.columns + spaces_before l t + length t.text + space_after t.text) 4294967295 =
    c.min-self-inside.ensures ∙ rw (before, spaces, long, after) refl in
    let result = line_after_is l t c.min-self-inside.result c.if-is_first.self columns closed in
    let number : c.self.inside.number + c.self.inside.distance ≡ l.number = ap (λ (x : Line). x.number) line in
    let system : c.self.inside.system ≡ l.system = ap (λ (x : Line). x.system) line in
    rw (number, system, c.written-written.ensures) (sym result)
