use Rattle.ppprint.proofs.PragmaTexts.{newline_front, blank_front, comment_front, open_front}
use Rattle.ppprint.proofs.pragma_tokens.front_of.Goals as goal

pub returns-in-NewLine : goal.returns-in-NewLine
returns-in-NewLine c = newline_front c.args.text.now c.requires c.in-NewLine.ensures

pub returns-in-Blank : goal.returns-in-Blank
returns-in-Blank c = blank_front c.args.text.now c.in-Blank.n c.in-Blank.ensures

pub returns-in-Comment : goal.returns-in-Comment
returns-in-Comment c = comment_front c.args.text.now c.in-Comment.n c.in-Comment.ensures

pub returns-in-Unclosed : goal.returns-in-Unclosed
returns-in-Unclosed c = open_front c.args.text.now c.requires c.in-Unclosed.ensures
