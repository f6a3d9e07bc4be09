-- Small sessions, computed. The prelude has no forms here.
use Rattle.std.specs.Prelude.{ℕ, pos, List, [], ◌∷◌, ◌++◌, Some, None, codes, map}
use Rattle.std.specs.List.{concat, find}
use Rattle.std.specs.Fmt.{digits}
use Rattle.std.specs.Option.{option_map_or}
use Rattle.std.specs.Str.{bytes_eq, chars, is_utf8}
use lib.Utf8.{encode}
use Rattle.std.proofs.Common.{◌≡◌, refl}
use Rattle.fac_base.specs.declared.place.Place.{Place}
use Rattle.fac_base.specs.Signatures.{signature, value, no_inputs, leaves}
use Rattle.fac_lang.specs.Primitives.{built_primitive_words, prim_numbered, prim_fn}
use Rattle.fac_lang.specs.Operations.{operation_does}
use Rattle.fac_lang.specs.declared.error_name.ErrorName.TheVariants.{ZeroDivisor, Thrown}
use Rattle.fac_source.specs.declared.token.Token.{Token}
use Rattle.fac_source.specs.declared.token.TokKind.TheVariants.{Str}
use Rattle.fac_source.specs.declared.tree.Bracket.TheVariants.{Quotation, Array}
use Rattle.fac_source.specs.declared.tree.Element.{Element}
use Rattle.fac_source.specs.declared.tree.Element.TheVariants as element
use Rattle.fac_source.specs.declared.tree.Form.TheVariants.{Row, Items}
use Rattle.fac_source.specs.declared.tree.FormKind.TheVariants.{Define, Symbol, Use}
use Rattle.fac_source.specs.declared.tree.Literal.TheVariants.{Integer, Text}
use Rattle.fac_source.specs.declared.tree.Part.TheVariants as part
use Rattle.fac_source.specs.declared.tree.Term.TheVariants as term
use Rattle.fac_source.specs.declared.refusal.NameKind.TheVariants.{Unknown, NoVocab}
use Rattle.fac_effect.specs.Spellings.{plain_token}
use Rattle.fac_lines.specs.LineReads.{line_within}
use Rattle.fac_vocab.specs.Scopes.{found}
use Rattle.fac_names.specs.KnownWords.{known_classes, known_words}
use Rattle.fac_parse.specs.declared.reader.Why.TheVariants.{End}
use Rattle.fac_notes.specs.declared.report.Report.TheVariants as report
use Rattle.fac_notes.specs.Sources.{Source, no_tree, tree}
use Rattle.fac_session.specs.Heard.{Heard, listened, notes_of}

-- How texts are written here: tokens by their numbers in file 1.

abbrev at : ℕ → Place
at t = record { file = 1; token = t }

abbrev spelled : List ℕ → ℕ → Token
spelled text t = plain_token (at t) text

abbrev named : List ℕ → ℕ → Element
named text t = element.Item (term.Name (spelled text t))

abbrev number : ℕ → ℕ → Element
number n t = element.Item (term.Literal (spelled [] t) (Integer (pos n)))

abbrev string : List ℕ → ℕ → Element
string text t = element.Item (term.Literal (record { place = at t; kind = Str text }) Text)

abbrev opens : ℕ → Element
opens t = element.Opens Quotation (at t)

abbrev closes : ℕ → Element
closes t = element.Closes Quotation (at t)

abbrev items : List Element → Source
items es = tree (Items es ∷ [])

-- what these texts come to; every other one is an empty tree
abbrev one_of : List (List ℕ × Source) → List ℕ → Source
one_of texts text = option_map_or (λ p. p.1) (find (λ p. bytes_eq p.0 text) texts) (tree [])

-- these lines as an input
abbrev input : List (List ℕ) → List ℕ
input lines = concat (map (λ text. text ++ codes "\n") lines)

abbrev hears : List (List ℕ × Source) → List (List ℕ) → Heard
hears texts lines = listened (tree []) (one_of texts) (input lines)

-- A stack that stands, a phrase that fails and leaves it, a definition, a text of two lines, and a name that isn't known.

first_texts : List (List ℕ × Source)
first_texts =
    (codes "1 2 +", items (number 1 1 ∷ number 2 2 ∷ named (codes "+") 3 ∷ []))
    ∷ (codes "0 /i", items (number 0 1 ∷ named (codes "/i") 2 ∷ []))
    ∷ (codes "dup *", items (named (codes "dup") 1 ∷ named (codes "*") 2 ∷ []))
    ∷ (codes ": s ( x -- y ) dup * ;", tree (Row Define (at 1) (part.Name (spelled (codes "s") 2) ∷ part.Effect (record { tokens = []; effect = signature None (value (codes "x") no_inputs) (leaves None (codes "y" ∷ [])) }) ∷ part.Items (named (codes "dup") 8 ∷ named (codes "*") 9 ∷ []) (at 10) ∷ part.Marks [] ∷ []) ∷ []))
    ∷ (codes "[ 1", no_tree 3 End)
    ∷ (codes "[ 1\n2 ] call + +", items (opens 1 ∷ number 1 2 ∷ number 2 3 ∷ closes 4 ∷ named (codes "call") 5 ∷ named (codes "+") 6 ∷ named (codes "+") 7 ∷ []))
    ∷ (codes "foo", items (named (codes "foo") 1 ∷ []))
    ∷ []

abbrev first_heard : Heard
first_heard = hears first_texts (codes "1 2 +" ∷ codes "0 /i" ∷ codes "dup *" ∷ codes ": s ( x -- y ) dup * ;" ∷ codes "[ 1" ∷ codes "2 ] call + +" ∷ codes "foo" ∷ [])

first_is : first_heard ≡ record { status = 0; ticks = 13; refusal = None; output = codes "--- Data stack:\n3\n--- Data stack:\n9\n--- Data stack:\n12\n"; told = report.Error ZeroDivisor (record { vocab = codes "math"; name = codes "/i" }) None ∷ report.Name (record { place = at 1; kind = Unknown; name = codes "foo" }) ∷ [] }
unfolding first_texts known_words known_classes built_primitive_words found prim_numbered prim_fn operation_does line_within digits
first_is = refl

first_notes : notes_of first_heard ≡ codes "error: zero-divisor in math:/i\nname: listener token 1: unknown foo\n"
unfolding first_texts known_words known_classes built_primitive_words found prim_numbered prim_fn operation_does line_within digits
first_notes = refl

-- A vocabulary that isn't there, a phrase that writes and fails, and one that runs and leaves nothing.

second_texts : List (List ℕ × Source)
second_texts =
    (codes "USE: nowhere", tree (Row Use (at 1) (part.Name (spelled (codes "nowhere") 2) ∷ []) ∷ []))
    ∷ (codes "\"a\" print \"b\" throw", items (string (codes "a") 1 ∷ named (codes "print") 2 ∷ string (codes "b") 3 ∷ named (codes "throw") 4 ∷ []))
    ∷ (codes "1 [ drop ] call", items (number 1 1 ∷ opens 2 ∷ named (codes "drop") 3 ∷ closes 4 ∷ named (codes "call") 5 ∷ []))
    ∷ []

abbrev second_heard : Heard
second_heard = hears second_texts (codes "USE: nowhere" ∷ codes "\"a\" print \"b\" throw" ∷ codes "1 [ drop ] call" ∷ [])

second_is : second_heard ≡ record { status = 0; ticks = 8; refusal = None; output = codes "a\n"; told = report.Name (record { place = at 2; kind = NoVocab; name = codes "nowhere" }) ∷ report.Error Thrown (record { vocab = codes "kernel"; name = codes "throw" }) (Some (codes "\"b\"")) ∷ [] }
unfolding second_texts known_words known_classes built_primitive_words found prim_numbered prim_fn operation_does line_within digits
second_is = refl

second_notes : notes_of second_heard ≡ codes "name: listener token 2: no-vocabulary nowhere\nerror: thrown in kernel:throw: \"b\"\n"
unfolding second_texts known_words known_classes built_primitive_words found prim_numbered prim_fn operation_does line_within digits
second_notes = refl

-- A text that waits at the end.

waiting_at_end : hears first_texts (codes "[ 1" ∷ []) ≡ record { status = 3; ticks = 0; refusal = Some (report.Syntax 1 3 End); output = []; told = [] }
unfolding first_texts known_words known_classes built_primitive_words found prim_numbered prim_fn operation_does line_within digits
waiting_at_end = refl

-- SYMBOL: s, and in the next line s, which is found there
symbol_texts : List (List ℕ × Source)
symbol_texts = (codes "SYMBOL: s", tree (Row Symbol (at 1) (part.Name (spelled (codes "s") 2) ∷ []) ∷ [])) ∷ (codes "s", items (named (codes "s") 1 ∷ [])) ∷ []

symbol_is_found : (hears symbol_texts (codes "SYMBOL: s" ∷ codes "s" ∷ [])).output ≡ codes "--- Data stack:\ns\n"
unfolding symbol_texts known_words known_classes built_primitive_words found prim_numbered prim_fn operation_does line_within digits
symbol_is_found = refl

-- readln, which takes the line behind it
taking_texts : List (List ℕ × Source)
taking_texts = (codes "readln", items (named (codes "readln") 1 ∷ [])) ∷ []

next_line_is_taken : hears taking_texts (codes "readln" ∷ codes "foo" ∷ []) ≡ record { status = 0; ticks = 1; refusal = None; output = codes "--- Data stack:\n\"foo\"\n"; told = [] }
unfolding taking_texts known_words known_classes built_primitive_words found prim_numbered prim_fn operation_does line_within digits is_utf8 chars encode
next_line_is_taken = refl

-- { 7 } in one line, and then 8 0 pick set-nth, which changes it, and 1 throw, behind which the change stands
changing_texts : List (List ℕ × Source)
changing_texts =
    (codes "{ 7 }", items (element.Opens Array (at 1) ∷ number 7 2 ∷ element.Closes Array (at 3) ∷ []))
    ∷ (codes "dup 8 0 rot set-nth 1 throw", items (named (codes "dup") 1 ∷ number 8 2 ∷ number 0 3 ∷ named (codes "rot") 4 ∷ named (codes "set-nth") 5 ∷ number 1 6 ∷ named (codes "throw") 7 ∷ []))
    ∷ (codes "dup drop", items (named (codes "dup") 1 ∷ named (codes "drop") 2 ∷ []))
    ∷ []

change_stays : (hears changing_texts (codes "{ 7 }" ∷ codes "dup 8 0 rot set-nth 1 throw" ∷ codes "dup drop" ∷ [])).output ≡ codes "--- Data stack:\n{ 7 }\n--- Data stack:\n{ 8 }\n"
unfolding changing_texts known_words known_classes built_primitive_words found prim_numbered prim_fn operation_does line_within digits
change_stays = refl

-- on an empty stack + is refused, and behind 1 2 it isn't
starting_texts : List (List ℕ × Source)
starting_texts = (codes "+", items (named (codes "+") 1 ∷ [])) ∷ (codes "1 2", items (number 1 1 ∷ number 2 2 ∷ [])) ∷ []

starts_from_the_stack : notes_of (hears starting_texts (codes "+" ∷ codes "1 2" ∷ codes "+" ∷ [])) ≡ codes "check: top-level, listener token 1: underflow, needs 2, has 0\n"
unfolding starting_texts known_words known_classes built_primitive_words found prim_numbered prim_fn operation_does line_within digits
starts_from_the_stack = refl
