-- Texts whose forms go to the names, one behind the other.
use Rattle.std.proofs.Common.{◌≡◌, ◌+◌, ℕ, suc, List, [], ◌∷◌, ◌++◌, length, Result, Ok, Err, cond, refl, sym, ap, subst, ◌∙◌, append_assoc, arith}
use Rattle.std.proofs.lemmas.List.{append-nil, length-append}
use Rattle.std.proofs.lemmas.List.Sums.{sum_by-append, sum_by_push}
use Rattle.std.specs.List.{count_by}
use Rattle.fac_source.specs.declared.token.Token.{Token}
use Rattle.fac_source.specs.declared.tree.Form.{Form}
use Rattle.fac_token.specs.declared.fault.TokenFault.{TokenFault}
use Rattle.fac_token.specs.declared.fault.TokenFault.TheVariants as token
use Rattle.fac_token.specs.Tokens.{Tokenizes}
use Rattle.fac_parse.specs.declared.reader.ParseFault.{ParseFault}
use Rattle.fac_parse.specs.declared.reader.ParseFault.TheVariants as parse
use Rattle.fac_parse.specs.declared.parser.Parser.{Parser}
use Rattle.fac_parse.specs.Handed.{HandsOut}
use Rattle.fac_parse.specs.Trees.{AreForms, IsWellFormed, Parses, Reads}
use Rattle.fac_trees.specs.declared.text_tree.TextTree.{TextTree}
use Rattle.fac_trees.specs.declared.text_tree.TextTree.TheVariants as trees
use Rattle.fac_trees.specs.TextTrees.{AreTreesOf, IsTreeOf, texts_in}
use Rattle.fac_names.specs.declared.resolver.Resolver.{Resolver}
use Rattle.fac_names.specs.TakenForms.{HasTaken}
use Rattle.fac_prelude.specs.PreludeText.{prelude_text}
use Rattle.fac_notes.specs.declared.report.ByteFault.{ByteFault}
use Rattle.fac_notes.specs.declared.report.ByteFault.TheVariants as byte
use Rattle.fac_notes.specs.declared.report.Report.TheVariants as report
use Rattle.fac_tool.specs.declared.ended.Ended.{Ended}
use Rattle.fac_notes.specs.Sources.{Source, no_tokens, no_tree, tree}
use Rattle.fac_tool.specs.Answer.{Sources, together, come_to, answer_on, is_definition, definitions_in}
use Rattle.fac_tool.specs.Sources.{token_fault, IsReadAs, AreReadAs, EverySource}
use Rattle.fac_tool.specs.inner.StepEnds.{bare, reported, fault_ending, tree_ending, EndsEarly, EndsFile, ReadSoFar, EndsRead}
use Rattle.fac_tool.specs.inner.FormsTaken.{LastGrows, FileAdds, AddsFile, HandsOn, TakesSome, FileTaken, TakesFile, TakenUpTo, TakesPart, TextsTaken, TakesTexts}
use Rattle.fac_tool.proofs.EarlyEnds.{no_memory, is_refused}

-- one text comes to something
alone : (file : ℕ) (text : List ℕ) (sources : List Source) → AreReadAs file (text ∷ []) sources → (source : Source) × IsReadAs file text source
alone file text [] h = absurd h
alone file text (source ∷ sources) h = (source, h.0)

-- memory was wanted while a text was read
pub wanted_for_text : EverySource → (file : ℕ) (text : List ℕ) (ended : Ended) → ended ≡ bare 12 0 → EndsFile file text ended
wanted_for_text law file text ended e =
    let all = law file (text ∷ []) in
    let read = alone file text all.0 all.1 in
    record { source = read.0; is_read = read.1; ends = λ on before sources. no_memory (answer_on on (together before file (read.0 ∷ sources))) ended e }

has_fault : (file : ℕ) (text : List ℕ) (at : ℕ) (why : ByteFault) (ended : Ended) → Tokenizes file text (Err (token_fault at why)) → ended ≡ reported 0 (report.Bytes file at why) → EndsFile file text ended
has_fault file text at why ended has is = record { source = no_tokens at why; is_read = has; ends = λ on before sources. is_refused (report.Bytes file at why) ended refl is }

pub has_no_tokens : EverySource → (file : ℕ) (text : List ℕ) (fault : TokenFault) (ended : Ended) → Tokenizes file text (Err fault) → ended ≡ fault_ending file fault → EndsFile file text ended
has_no_tokens law file text (token.NotUtf8 at) ended has is = has_fault file text at byte.NotUtf8 ended has is
has_no_tokens law file text (token.OpenString at) ended has is = has_fault file text at byte.OpenString ended has is
has_no_tokens law file text (token.BadEscape at) ended has is = has_fault file text at byte.BadEscape ended has is
has_no_tokens law file text (token.StuckQuote at) ended has is = has_fault file text at byte.StuckQuote ended has is
has_no_tokens law file text token.Memory ended has is = wanted_for_text law file text ended is

-- its tokens end the work, or memory was wanted for its forms
pub has_no_tree :
    EverySource → (file : ℕ) (tokens : List Token) (so_far : List Form) (parser : Parser) (fault : ParseFault) (ended : Ended) → HandsOut tokens so_far parser (Err fault) → ended ≡ tree_ending file fault →
    (text : List ℕ) → Tokenizes file text (Ok tokens) → EndsFile file text ended
has_no_tree law file tokens so_far parser (parse.Syntax at why) ended none e text are =
    record { source = no_tree at why; is_read = (tokens, are, none); ends = λ on before sources. is_refused (report.Syntax file at why) ended refl e }
has_no_tree law file tokens so_far parser parse.Memory ended none e text are = wanted_for_text law file text ended e

counts_both : (count sum both : ℕ) (so_far forms : List Form) → sum ≡ count + count_by is_definition so_far → both ≡ sum + count_by is_definition forms → both ≡ count + count_by is_definition (so_far ++ forms)
counts_both count sum both so_far forms e f =
    let join : count_by is_definition (so_far ++ forms) ≡ count_by is_definition so_far + count_by is_definition forms = sum_by-append (λ (form : Form). cond (is_definition form) 1 0) so_far forms in
    omega (arith, join, e, f)

-- a file goes on with more forms
pub file_goes_on :
    (tokens : List Token) (count sum both : ℕ) (parser next : Parser) (first before now : Resolver) →
    (so_far : TakesSome tokens [] count parser first before sum) → TakesSome tokens so_far.forms sum next before now both → TakesSome tokens [] count next first now both
file_goes_on tokens count sum both parser next first before now so_far more =
    record {
      forms = so_far.forms ++ more.forms;
      handed = more.handed;
      grows = λ files h. more.grows files (so_far.grows files h);
      counts = counts_both count sum both so_far.forms more.forms so_far.counts more.counts;
    }

-- what was begun is a file behind others
pub adds_file :
    (file : ℕ) (text : List ℕ) (count : ℕ) (before begun now : Resolver) (r : Result ℕ Ended) →
    FileAdds [] before begun → TakesFile file text count (λ forms. LastGrows [] forms begun now) r → TakesFile file text count (λ forms. FileAdds forms before now) r
adds_file file text count before begun now (Ok sum) begins taken = record { forms = taken.forms; is_read = taken.is_read; given = λ files h. taken.given files (begins files h); counts = taken.counts }
adds_file file text count before begun now (Err ended) begins ends = ends

-- memory was wanted before the first file
pub wanted_for_texts : EverySource → (texts : List (List ℕ)) (ended : Ended) → ended ≡ bare 12 0 → EndsRead texts ended
wanted_for_texts law texts ended e =
    let all = law 0 (prelude_text ∷ texts) in
    record { sources = all.0; are_read = all.1; ends = λ on. no_memory (answer_on on (come_to all.0)) ended e }

-- the prelude ends the work
pub ends_prelude : EverySource → (texts : List (List ℕ)) (ended : Ended) → EndsFile 0 prelude_text ended → EndsRead texts ended
ends_prelude law texts ended ends =
    let behind = law 1 texts in
    record { sources = ends.source ∷ behind.0; are_read = (ends.is_read, behind.1); ends = λ on. ends.ends on [] behind.0 }

-- or it is the first file
pub begins :
    (texts left : List (List ℕ)) (before now : Resolver) (sum : ℕ) →
    left ≡ texts → HasTaken [] before → FileTaken 0 prelude_text 0 (λ forms. FileAdds forms before now) sum → TakenUpTo texts left 1 0 now
begins texts left before now sum e none adds =
    record {
      prelude = adds.forms;
      files = [];
      taken = adds.given [] none;
      onward = λ sources are. record { whole = tree adds.forms ∷ sources; are_read = (adds.is_read, subst (λ (ts : List (List ℕ)). AreReadAs 1 ts sources) e are); same = refl };
      counts = refl;
    }

-- one file more
pub goes_on :
    (texts left rest : List (List ℕ)) (file count sum : ℕ) (text : List ℕ) (before now : Resolver) →
    left ≡ text ∷ rest → TakenUpTo texts left file count before → FileTaken file text count (λ forms. FileAdds forms before now) sum → TakenUpTo texts rest (file + 1) sum now
goes_on texts left rest file count sum text before now e so_far adds =
    record {
      prelude = so_far.prelude;
      files = so_far.files ++ adds.forms ∷ [];
      taken = adds.given (so_far.prelude ∷ so_far.files) so_far.taken;
      onward = λ sources are.
          let reached = so_far.onward (tree adds.forms ∷ sources) (subst (λ (ts : List (List ℕ)). AreReadAs file ts (tree adds.forms ∷ sources)) (sym e) (adds.is_read, are)) in
          record { whole = reached.whole; are_read = reached.are_read; same = reached.same };
      counts = adds.counts ∙ ap (λ (n : ℕ). n + count_by is_definition adds.forms) so_far.counts ∙ sym (sum_by_push (λ (forms : List Form). count_by is_definition forms) so_far.files adds.forms);
    }

-- or a file ends the work
pub ends_texts :
    EverySource → (texts left rest : List (List ℕ)) (file count : ℕ) (text : List ℕ) (resolver : Resolver) (ended : Ended) →
    left ≡ text ∷ rest → TakenUpTo texts left file count resolver → EndsFile file text ended → EndsRead texts ended
ends_texts law texts left rest file count text resolver ended e so_far ends =
    let behind = law (file + 1) rest in
    let reached = so_far.onward (ends.source ∷ behind.0) (subst (λ (ts : List (List ℕ)). AreReadAs file ts (ends.source ∷ behind.0)) (sym e) (ends.is_read, behind.1)) in
    record {
      sources = reached.whole;
      are_read = reached.are_read;
      ends = λ on. subst (λ (s : Sources). EndsEarly (answer_on on s) ended) (sym reached.same) (ends.ends on (so_far.prelude ∷ so_far.files) behind.0);
    }

-- or all were taken
pub all_taken : (texts left : List (List ℕ)) (file count : ℕ) (resolver : Resolver) → left ≡ [] → TakenUpTo texts left file count resolver → TextsTaken texts resolver count
all_taken texts left file count resolver e so_far =
    let reached = so_far.onward [] (subst (λ (ts : List (List ℕ)). AreReadAs file ts []) (sym e) tt) in
    record {
      files = so_far.prelude ∷ so_far.files;
      are_trees = record { sources = reached.whole; are_read = reached.are_read; come = reached.same };
      taken = so_far.taken;
      counts = so_far.counts;
    }

-- What comes next.

-- from texts to those that are left of them: whatever comes behind, all between were taken
abbrev pub TakenBetween : List (List ℕ) → List (List ℕ) → ℕ → ℕ → ℕ → ℕ → Resolver → Resolver → Type 0
TakenBetween part left first count file sum before now = (texts rest : List (List ℕ)) → TakenUpTo texts (part ++ rest) (first + 1) count before → TakenUpTo texts (left ++ rest) (file + 1) sum now

-- one of them more
pub more_between :
    (part left next : List (List ℕ)) (first count file sum more : ℕ) (text : List ℕ) (before between now : Resolver) →
    left ≡ text ∷ next → TakenBetween part left first count file sum before between → FileTaken (file + 1) text sum (λ forms. FileAdds forms between now) more → TakenBetween part next first count (file + 1) more before now
more_between part left next first count file sum more text before between now e so_far adds texts rest start =
    goes_on texts (left ++ rest) (next ++ rest) (file + 1) sum more text between now (ap (λ (ts : List (List ℕ)). ts ++ rest) e) (so_far texts rest start) adds

-- or one of them ends the work
pub ends_between :
    EverySource → (part left next : List (List ℕ)) (first count file sum : ℕ) (text : List ℕ) (before between now : Resolver) (ended : Ended) →
    left ≡ text ∷ next → TakenBetween part left first count file sum before between → EndsFile (file + 1) text ended → TakesPart first part count before now (Err ended)
ends_between law part left next first count file sum text before between now ended e so_far ends texts rest start =
    ends_texts law texts (left ++ rest) (next ++ rest) (file + 1) sum text between ended (ap (λ (ts : List (List ℕ)). ts ++ rest) e) (so_far texts rest start) ends

-- or none is left
pub done_between :
    (part left : List (List ℕ)) (first count file sum : ℕ) (before now : Resolver) →
    left ≡ [] → file ≡ first + length part → TakenBetween part left first count file sum before now → TakesPart first part count before now (Ok sum)
done_between part left first count file sum before now e at so_far texts rest start =
    subst (λ (n : ℕ). TakenUpTo texts rest (n + 1) sum now) at (subst (λ (ts : List (List ℕ)). TakenUpTo texts (ts ++ rest) (file + 1) sum now) e (so_far texts rest start))

-- memory was wanted
pub wanted_between : EverySource → (part : List (List ℕ)) (first count : ℕ) (before now : Resolver) (ended : Ended) → ended ≡ bare 12 0 → TakesPart first part count before now (Err ended)
wanted_between law part first count before now ended e texts rest start = wanted_for_texts law texts ended e

-- a part of them
pub part_between :
    (all part left : List (List ℕ)) (first count file sum more : ℕ) (before between now : Resolver) →
    TakenBetween all (part ++ left) first count file sum before between → TakesPart file part sum between now (Ok more) → TakenBetween all left first count (file + length part) more before now
part_between all part left first count file sum more before between now so_far takes texts rest start =
    takes texts (left ++ rest) (subst (λ (ts : List (List ℕ)). TakenUpTo texts ts (file + 1) sum between) (append_assoc part left rest) (so_far texts rest start))

pub part_ends :
    (all part left : List (List ℕ)) (first count file sum : ℕ) (before between now : Resolver) (ended : Ended) →
    TakenBetween all (part ++ left) first count file sum before between → TakesPart file part sum between now (Err ended) → TakesPart first all count before now (Err ended)
part_ends all part left first count file sum before between now ended so_far takes texts rest start =
    takes texts (left ++ rest) (subst (λ (ts : List (List ℕ)). TakenUpTo texts ts (file + 1) sum between) (append_assoc part left rest) (so_far texts rest start))

-- What texts come to.

pub tree_ends : EverySource → (file : ℕ) (text : List ℕ) (fault : ParseFault) (ended : Ended) (tokens : List Token) → Tokenizes file text (Ok tokens) → Parses tokens (Err fault) → ended ≡ tree_ending file fault → EndsFile file text ended
tree_ends law file text (parse.Syntax at why) ended tokens are none e = record { source = no_tree at why; is_read = (tokens, are, none); ends = λ on before sources. is_refused (report.Syntax file at why) ended refl e }
tree_ends law file text parse.Memory ended tokens are none e = wanted_for_text law file text ended e

are_forms : (forms : List Form) → IsWellFormed forms → AreForms forms
are_forms [] h = tt
are_forms (form ∷ forms) h = (h.0, are_forms forms h.2)

-- the forms of a tree are forms
pub tree_forms : (file : ℕ) (come : TextTree) (forms : List Form) → come ≡ trees.Forms forms → (text : List ℕ) × IsTreeOf file text come → AreForms forms
tree_forms file come forms e there =
    let comes : IsTreeOf file there.0 (trees.Forms forms) = subst (λ (t : TextTree). IsTreeOf file there.0 t) e there.1 in
    are_forms forms comes.2.fits

-- a file has no tokens
pub tree_no_tokens : EverySource → (file : ℕ) (come : TextTree) (fault : TokenFault) (ended : Ended) → come ≡ trees.NoTokens fault → ended ≡ fault_ending file fault → (text : List ℕ) → IsTreeOf file text come → EndsFile file text ended
tree_no_tokens law file come fault ended e is text h =
    let comes : IsTreeOf file text (trees.NoTokens fault) = subst (λ (t : TextTree). IsTreeOf file text t) e h in
    has_no_tokens law file text fault ended comes.0 is

-- or they have no tree
pub tree_no_tree : EverySource → (file : ℕ) (come : TextTree) (fault : ParseFault) (ended : Ended) → come ≡ trees.NoTree fault → ended ≡ tree_ending file fault → (text : List ℕ) → IsTreeOf file text come → EndsFile file text ended
tree_no_tree law file come fault ended e is text h =
    let comes : IsTreeOf file text (trees.NoTree fault) = subst (λ (t : TextTree). IsTreeOf file text t) e h in
    tree_ends law file text fault ended comes.0 comes.1 comes.2 is

-- or its forms were taken
pub tree_taken :
    (file count sum : ℕ) (come : TextTree) (forms : List Form) (before now : Resolver) → come ≡ trees.Forms forms → (sum ≡ count + count_by is_definition forms) × FileAdds forms before now →
    (text : List ℕ) → IsTreeOf file text come → FileTaken file text count (λ given. FileAdds given before now) sum
tree_taken file count sum come forms before now e adds text h =
    let comes : IsTreeOf file text (trees.Forms forms) = subst (λ (t : TextTree). IsTreeOf file text t) e h in
    record { forms = forms; is_read = (comes.0, comes.1, comes.2); given = adds.1; counts = adds.0 }

-- a file was begun, and its forms were handed on
pub whole_adds :
    {E : Type 0} → (forms : List Form) (count : ℕ) (before begun now : Resolver) (r : Result ℕ E) →
    FileAdds [] before begun → HandsOn forms count begun now r → AddsFile forms count before now r
whole_adds forms count before begun now (Ok sum) begins hands = (hands.0, λ files h. hands.1 [] files (begins files h))
whole_adds forms count before begun now (Err fault) begins hands = tt

-- of the texts of some trees these are left, with those trees
pub record TreesLeft (part : List (List ℕ)) (left : List TextTree) (first count file sum : ℕ) (before now : Resolver) : Type 0 where
  pub texts : List (List ℕ)
  pub are : AreTreesOf (file + 1) texts left
  pub taken : TakenBetween part texts first count file sum before now
  pub all : file + length texts ≡ first + length part

-- the first of them
pub record FirstTree (file : ℕ) (texts : List (List ℕ)) (come : TextTree) (next : List TextTree) : Type 0 where
  pub text : List ℕ
  pub rest : List (List ℕ)
  pub is : texts ≡ text ∷ rest
  pub comes : IsTreeOf file text come
  pub others : AreTreesOf (file + 1) rest next

pub first_tree : (file : ℕ) (texts : List (List ℕ)) (left next : List TextTree) (come : TextTree) → left ≡ come ∷ next → AreTreesOf file texts left → FirstTree file texts come next
first_tree file texts left next come e are = of_first texts (subst (λ (ts : List TextTree). AreTreesOf file texts ts) e are)
  where
    of_first : (texts : List (List ℕ)) → AreTreesOf file texts (come ∷ next) → FirstTree file texts come next
    of_first [] h = absurd h
    of_first (text ∷ rest) h = record { text = text; rest = rest; is = refl; comes = h.0; others = h.1 }

-- as many texts as trees
pub trees_length : (file : ℕ) (texts : List (List ℕ)) (given : List TextTree) → AreTreesOf file texts given → length given ≡ length texts
trees_length file [] [] are = refl
trees_length file [] (come ∷ given) are = absurd are
trees_length file (text ∷ texts) [] are = absurd are
trees_length file (text ∷ texts) (come ∷ given) are = ap suc (trees_length (file + 1) texts given are.1)

-- no text is left where no tree is
pub none_left : (file : ℕ) (texts : List (List ℕ)) (left : List TextTree) → left ≡ [] → AreTreesOf file texts left → texts ≡ []
none_left file texts left e are = of_none texts (subst (λ (ts : List TextTree). AreTreesOf file texts ts) e are)
  where
    of_none : (texts : List (List ℕ)) → AreTreesOf file texts [] → texts ≡ []
    of_none [] h = refl
    of_none (text ∷ rest) h = absurd h

-- at the start all are left
pub same_between : (part left : List (List ℕ)) (first count : ℕ) (resolver : Resolver) → left ≡ part → TakenBetween part left first count first count resolver resolver
same_between part left first count resolver e texts rest start = subst (λ (ts : List (List ℕ)). TakenUpTo texts (ts ++ rest) (first + 1) count resolver) (sym e) start

pub trees_begin :
    (given left : List TextTree) (first count : ℕ) (resolver : Resolver) → left ≡ given →
    (part : List (List ℕ)) → AreTreesOf (first + 1) part given → TreesLeft part left first count first count resolver resolver
trees_begin given left first count resolver e part are =
    record { texts = part; are = subst (λ (ts : List TextTree). AreTreesOf (first + 1) part ts) (sym e) are; taken = same_between part part first count resolver refl; all = refl }

-- the file of the first tree is taken
pub trees_more :
    (part : List (List ℕ)) (left next : List TextTree) (come : TextTree) (first count file sum more : ℕ) (before between now : Resolver) →
    left ≡ come ∷ next → TreesLeft part left first count file sum before between →
    ((text : List ℕ) → IsTreeOf (file + 1) text come → TakesFile (file + 1) text sum (λ forms. FileAdds forms between now) (Ok more)) → TreesLeft part next first count (file + 1) more before now
trees_more part left next come first count file sum more before between now e so_far takes =
    let top = first_tree (file + 1) so_far.texts left next come e so_far.are in
    record {
      texts = top.rest;
      are = top.others;
      taken = more_between part so_far.texts top.rest first count file sum more top.text before between now top.is so_far.taken (takes top.text top.comes);
      all = omega (arith, ap length top.is, so_far.all);
    }

-- some text comes to the first tree
pub tree_there :
    (part : List (List ℕ)) (left next : List TextTree) (come : TextTree) (first count file sum : ℕ) (before now : Resolver) →
    left ≡ come ∷ next → TreesLeft part left first count file sum before now → (text : List ℕ) × IsTreeOf (file + 1) text come
tree_there part left next come first count file sum before now e so_far =
    let top = first_tree (file + 1) so_far.texts left next come e so_far.are in
    (top.text, top.comes)

-- or it ends the work
pub trees_end :
    EverySource → (part : List (List ℕ)) (left next : List TextTree) (come : TextTree) (first count file sum : ℕ) (before between now : Resolver) (ended : Ended) →
    left ≡ come ∷ next → TreesLeft part left first count file sum before between → ((text : List ℕ) → IsTreeOf (file + 1) text come → EndsFile (file + 1) text ended) →
    TakesPart first part count before now (Err ended)
trees_end law part left next come first count file sum before between now ended e so_far ends =
    let top = first_tree (file + 1) so_far.texts left next come e so_far.are in
    ends_between law part so_far.texts top.rest first count file sum top.text before between now ended top.is so_far.taken (ends top.text top.comes)

-- or all were taken
pub trees_done :
    (part : List (List ℕ)) (left : List TextTree) (first count file sum : ℕ) (before now : Resolver) →
    left ≡ [] → TreesLeft part left first count file sum before now → TakesPart first part count before now (Ok sum)
trees_done part left first count file sum before now e so_far =
    let none : so_far.texts ≡ [] = none_left (file + 1) so_far.texts left e so_far.are in
    let none_left_length : length so_far.texts ≡ 0 = ap length none in
    let at : file ≡ first + length part = omega (arith, none_left_length, so_far.all) in
    done_between part so_far.texts first count file sum before now none at so_far.taken

-- Parts.

-- so many texts are left behind the first part
pub parts_length : (left next : List (List (List ℕ))) (part : List (List ℕ)) → left ≡ part ∷ next → length (texts_in left) ≡ length part + length (texts_in next)
parts_length left next part e = ap (λ (ps : List (List (List ℕ))). length (texts_in ps)) e ∙ length-append part (texts_in next)

-- trees wait for the names: those of the texts behind which come the others
pub record TreesWait (all others : List (List ℕ)) (given : List TextTree) (file sum : ℕ) (before now : Resolver) : Type 0 where
  pub texts : List (List ℕ)
  pub are : AreTreesOf (file + 1) texts given
  pub taken : TakenBetween all (texts ++ others) 0 0 file sum before now
  pub all_left : file + length given + length others ≡ length all

-- at the start none
pub none_wait : (all others : List (List ℕ)) (resolver : Resolver) → others ≡ all → TreesWait all others [] 0 0 resolver resolver
none_wait all others resolver e = record { texts = []; are = tt; taken = same_between all others 0 0 resolver e; all_left = omega (arith, ap length e) }

-- those of the next part
pub next_wait :
    (all : List (List ℕ)) (left next : List (List (List ℕ))) (part : List (List ℕ)) (given read : List TextTree) (file sum more added : ℕ) (before between now : Resolver) →
    left ≡ part ∷ next → added ≡ length given → (wait : TreesWait all (texts_in left) given file sum before between) →
    TakesPart file wait.texts sum between now (Ok more) → AreTreesOf (file + length given + 1) part read → TreesWait all (texts_in next) read (file + added) more before now
next_wait all left next part given read file sum more added before between now e at wait takes are =
    let count : length given ≡ length wait.texts = trees_length (file + 1) wait.texts given wait.are in
    let read_count : length read ≡ length part = trees_length (file + length given + 1) part read are in
    let behind = part_between all wait.texts (texts_in left) 0 0 file sum more before between now wait.taken takes in
    let cut = subst (λ (ts : List (List ℕ)). TakenBetween all ts 0 0 (file + length wait.texts) more before now) (ap (λ (ps : List (List (List ℕ))). texts_in ps) e) behind in
    subst (λ (n : ℕ). TreesWait all (texts_in next) read (file + n) more before now) (sym at) (record {
      texts = part;
      are = are;
      taken = subst (λ (n : ℕ). TakenBetween all (part ++ texts_in next) 0 0 (file + n) more before now) (sym count) cut;
      all_left = omega (arith, read_count, parts_length left next part e, wait.all_left);
    })

-- or one of the texts of those that wait ends the work
pub wait_ends :
    (all others : List (List ℕ)) (given : List TextTree) (file sum : ℕ) (before between now : Resolver) (ended : Ended) →
    (wait : TreesWait all others given file sum before between) → TakesPart file wait.texts sum between now (Err ended) → TakesPart 0 all 0 before now (Err ended)
wait_ends all others given file sum before between now ended wait ends = part_ends all wait.texts others 0 0 file sum before between now ended wait.taken ends

-- no text is left but theirs
pub last_wait :
    (all : List (List ℕ)) (left : List (List (List ℕ))) (given : List TextTree) (file sum : ℕ) (before between now : Resolver) (r : Result ℕ Ended) →
    left ≡ [] → (wait : TreesWait all (texts_in left) given file sum before between) → TakesPart file wait.texts sum between now r → TakesPart 0 all 0 before now r
last_wait all left given file sum before between now (Ok more) e wait takes =
    let none : texts_in left ≡ [] = ap (λ (ps : List (List (List ℕ))). texts_in ps) e in
    let none_length : length (texts_in left) ≡ 0 = ap length none in
    let count : length given ≡ length wait.texts = trees_length (file + 1) wait.texts given wait.are in
    let whole : file + length wait.texts ≡ 0 + length all = omega (arith, none_length, count, wait.all_left) in
    done_between all (texts_in left) 0 0 (file + length wait.texts) more before now none whole (part_between all wait.texts (texts_in left) 0 0 file sum more before between now wait.taken takes)
last_wait all left given file sum before between now (Err ended) e wait ends = wait_ends all (texts_in left) given file sum before between now ended wait ends

-- the texts are taken, however they are cut into parts
pub parts_taken : (texts all : List (List ℕ)) (before now : Resolver) (r : Result ℕ Ended) → all ≡ texts → TakesPart 0 all 0 before now r → TakesPart 0 texts 0 before now r
parts_taken texts all before now r e takes = subst (λ (ts : List (List ℕ)). TakesPart 0 ts 0 before now r) e takes

-- they are taken behind the prelude
pub begun_texts : (texts : List (List ℕ)) (before now : Resolver) (r : Result ℕ Ended) → TakenUpTo texts texts 1 0 before → TakesPart 0 texts 0 before now r → TakesTexts texts now r
begun_texts texts before now (Ok sum) begun takes =
    all_taken texts [] (0 + length texts + 1) sum now refl (takes texts [] (subst (λ (ts : List (List ℕ)). TakenUpTo texts ts 1 0 before) (sym (append-nil texts)) begun))
begun_texts texts before now (Err ended) begun takes =
    takes texts [] (subst (λ (ts : List (List ℕ)). TakenUpTo texts ts 1 0 before) (sym (append-nil texts)) begun)
