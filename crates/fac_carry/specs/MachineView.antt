-- What the machine's values, objects and errors stand for in the meaning.
use Rattle.std.specs.Prelude.{ℕ, List, [], ◌∷◌, map, Option, Some, None}
use Rattle.fac_lang.specs.declared.program.Program.{Program}
use Rattle.fac_lang.specs.Phrases.{Phrase, held, Value, plain, fun, Callable, of_phrase, cur, both}
use Rattle.fac_lang.specs.World.{Object, array, tuple, World, State, Error}
use Rattle.fac_lang.specs.Procedures.{Gives, gives, bad}
use Rattle.fac_locals.specs.Frames.{template_phrase}
use Rattle.fac_store.specs.MachineValues.{MValue, m_plain, m_fun, MCallable, m_lit, m_cur, m_com, Kept, none_kept, kept}

-- the phrase of each template, with these values held in its cells
abbrev pub Templates : Type 0
Templates = ℕ → List Value → Phrase

-- those of a program's templates
unfoldable pub template_phrases : Program → Templates
template_phrases P q vs = template_phrase P q (map held vs)

-- A literal callable stands for the phrase of its template with the values that it keeps. What `curry` and `compose` made stands part by part.
abbrev mutual
  pub value_view : Templates → MValue → Value
  value_view T (m_plain p) = plain p
  value_view T (m_fun c) = fun (callable_view T c)

  pub callable_view : Templates → MCallable → Callable
  callable_view T (m_lit q k) = of_phrase (T q (kept_view T k))
  callable_view T (m_cur v c) = cur (value_view T v) (callable_view T c)
  callable_view T (m_com c d) = both (callable_view T c) (callable_view T d)

  pub kept_view : Templates → Kept → List Value
  kept_view T none_kept = []
  kept_view T (kept v k) = value_view T v ∷ kept_view T k

module _ (T : Templates) where
  abbrev pub values_view : List MValue → List Value
  values_view vs = map (value_view T) vs

  abbrev pub object_view : Object MValue → Object Value
  object_view (array vs) = array (values_view vs)
  object_view (tuple k vs) = tuple k (values_view vs)

  abbrev pub world_view : World MValue → World Value
  world_view w = record { objects = map object_view w.objects; literals = w.literals; input = w.input; asked = w.asked; output = w.output }

  abbrev pub state_view : List MValue → World MValue → State Value
  state_view stack w = record { stack = values_view stack; world = world_view w }

  abbrev pub option_view : Option MValue → Option Value
  option_view None = None
  option_view (Some v) = Some (value_view T v)

  abbrev pub error_view : Error MValue → Error Value
  error_view e = record { name = e.name; value = option_view e.value; word = e.word }

  abbrev pub gives_view : Gives MValue → Gives Value
  gives_view (gives vs w) = gives (values_view vs) (world_view w)
  gives_view (bad e v w) = bad e (option_view v) (world_view w)
