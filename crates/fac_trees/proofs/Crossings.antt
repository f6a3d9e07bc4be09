-- The types that the readers' threads hand back, each once.
use denote.Param.Send.{IsSend, sendable}
use Rattle.std.proofs.Crossing.{Vec-send, Box-send}
use Rattle.fac_base.proofs.boxed.Boxed.TheSendSync as boxes
use Rattle.fac_base.proofs.height.Height.TheSendSync as heights
use Rattle.fac_base.proofs.integer.Integer.TheSendSync as integers
use Rattle.fac_base.proofs.list.List.TheSendSync as lists
use Rattle.fac_base.proofs.place.Place.TheSendSync as places
use Rattle.fac_base.proofs.text.Text.TheSendSync as texts
use Rattle.fac_base.proofs.effect.Effect.TheLaws.TheKnot.{send-Effect}
use Rattle.fac_source.proofs.tree.Bracket.TheSendSync as brackets
use Rattle.fac_source.proofs.tree.Callee.TheSendSync as callees
use Rattle.fac_source.proofs.tree.DefinitionMark.TheSendSync as marks
use Rattle.fac_source.proofs.tree.FormKind.TheSendSync as kinds
use Rattle.fac_source.proofs.tree.Key.TheSendSync as keys
use Rattle.fac_source.proofs.tree.Literal.TheSendSync as literals
use Rattle.fac_base.specs.contracts.effect.Effect as Effect
use Rattle.fac_source.specs.contracts.token.Token as Token
use Rattle.fac_base.specs.contracts.boxed.Boxed as Boxed
use Rattle.fac_base.specs.contracts.list.List as Listed
use Rattle.fac_source.specs.contracts.tree.DefinitionMark as DefinitionMark
use Rattle.fac_source.specs.contracts.tree.Element as Element
use Rattle.fac_source.specs.contracts.tree.Form as Form
use Rattle.fac_source.specs.contracts.tree.Parent as Parent
use Rattle.fac_source.specs.contracts.tree.Part as Part
use Rattle.fac_source.specs.contracts.tree.Term as Term
use Rattle.fac_source.specs.contracts.tree.WrittenEffect as WrittenEffect
use Rattle.fac_trees.specs.contracts.text_tree.TextTree as TextTree

token_send : IsSend Token.the_row
token_send = search (sendable, places.the_field_send, texts.the_send) depth 20

token_field : IsSend (Token.the_field).row
token_field = search (sendable, places.the_field_send, texts.the_send) depth 20

effect_field : IsSend (Effect.the_field).row
effect_field = search (sendable, send-Effect, Vec-send, Box-send, lists.the_send, texts.the_send) depth 20

written_send : IsSend WrittenEffect.the_row
written_send = search (sendable, lists.the_send, token_send, effect_field) depth 20

parent_send : IsSend Parent.the_row
parent_send = search (sendable, places.the_field_send, token_field) depth 30

term_field : IsSend (Term.the_field).row
term_field = search (sendable, lists.the_send, token_send, token_field, places.the_field_send, heights.the_field_send, callees.the_field_send, literals.the_send, literals.the_field_send, integers.the_send) depth 30

element_send : IsSend Element.the_row
element_send = search (sendable, lists.the_send, token_send, places.the_field_send, brackets.the_field_send, term_field) depth 30

boxed_effect : IsSend (Boxed.the_row WrittenEffect.the_row)
boxed_effect = search (sendable, boxes.the_send, written_send) depth 20

boxed_parent : IsSend (Boxed.the_row Parent.the_row)
boxed_parent = search (sendable, boxes.the_send, parent_send) depth 20

tokens_send : IsSend (Listed.the_row Token.the_row)
tokens_send = search (sendable, lists.the_send, token_send) depth 20

elements_send : IsSend (Listed.the_row Element.the_row)
elements_send = search (sendable, lists.the_send, element_send) depth 20

marks_send : IsSend (Listed.the_row DefinitionMark.the_row)
marks_send = search (sendable, lists.the_send, marks.the_send) depth 20

part_send : IsSend Part.the_row
part_send = search (sendable, boxed_effect, boxed_parent, tokens_send, elements_send, marks_send, token_field, places.the_field_send, keys.the_field_send) depth 30

form_send : IsSend Form.the_row
form_send = search (sendable, lists.the_send, places.the_field_send, kinds.the_field_send, part_send, element_send) depth 30

pub tree_send : IsSend TextTree.the_row
tree_send = search (sendable, lists.the_send, form_send) depth 20
