-- A closed program may be shared by threads: the types that it is made of, each once.
use denote.Param.Send.{IsSync, sendable}
use Rattle.std.proofs.Crossing.{Vec-sync, Box-sync}
use Rattle.fac_base.proofs.height.Height.TheSendSync as heights
use Rattle.fac_base.proofs.integer.Integer.TheSendSync as integers
use Rattle.fac_base.proofs.list.List.TheSendSync as lists
use Rattle.fac_base.proofs.name.Name.TheSendSync as names
use Rattle.fac_base.proofs.place.Place.TheSendSync as places
use Rattle.fac_base.proofs.text.Text.TheSendSync as texts
use Rattle.fac_base.proofs.effect.Effect.TheLaws.TheKnot.{sync-Effect}
use Rattle.fac_lang.proofs.phrase.Phrase.TheLaws.TheKnot.{sync-Phrase}
use Rattle.fac_lang.proofs.core_table.CoreWord.TheSendSync as cores
use Rattle.fac_lang.proofs.program.ClassDef.TheSendSync as classes
use Rattle.fac_base.specs.contracts.effect.Effect as Effect
use Rattle.fac_lang.specs.contracts.phrase.Phrase as Phrase
use Rattle.fac_lang.specs.contracts.phrase.Template as Template
use Rattle.fac_lang.specs.contracts.program.Lit as Lit
use Rattle.fac_lang.specs.contracts.program.Program as Program
use Rattle.fac_lang.specs.contracts.program.Sort as Sort
use Rattle.fac_lang.specs.contracts.program.WordDef as WordDef
use Rattle.fac_locals.specs.contracts.closing.Closed as Closed

phrase_sync : IsSync Phrase.the_row
phrase_sync = search (sendable, sync-Phrase, Vec-sync, Box-sync, texts.the_sync, integers.the_sync, heights.the_sync, places.the_sync) depth 20

effect_field : IsSync (Effect.the_field).row
effect_field = search (sendable, sync-Effect, Vec-sync, Box-sync, lists.the_sync, texts.the_sync) depth 20

lit_sync : IsSync Lit.the_row
lit_sync = search (sendable, texts.the_sync, integers.the_sync, phrase_sync) depth 20

sort_field : IsSync (Sort.the_field).row
sort_field = search (sendable, texts.the_sync, cores.the_field_sync, phrase_sync) depth 20

word_sync : IsSync WordDef.the_row
word_sync = search (sendable, names.the_field_sync, places.the_field_sync, sort_field, effect_field) depth 30

template_sync : IsSync Template.the_row
template_sync = search (sendable, lists.the_sync, phrase_sync) depth 20

program_field : IsSync (Program.the_field).row
program_field = search (sendable, lists.the_sync, word_sync, lit_sync, classes.the_sync) depth 20

pub closed_sync : IsSync Closed.the_row
closed_sync = search (sendable, lists.the_sync, program_field, template_sync) depth 20
