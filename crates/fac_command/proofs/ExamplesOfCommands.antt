-- Command lines, with the commands that they ask for.
use Rattle.std.proofs.Common.{◌≡◌, [], ◌∷◌, None, Some, refl}
use Rattle.std.specs.Prelude.{codes}
use Rattle.fac_command.specs.Command.{command_of, check, run, run_stack, build, exec, list, generate}

-- check a b
pub checks : command_of (codes "check" ∷ codes "a" ∷ codes "b" ∷ []) ≡ Some (check (codes "a" ∷ codes "b" ∷ []))
checks = refl

-- run --steps 007 a
pub runs : command_of (codes "run" ∷ codes "--steps" ∷ codes "007" ∷ codes "a" ∷ []) ≡ Some (run 7 (codes "a" ∷ []))
runs = refl

-- run --stack a
pub runs_and_lists : command_of (codes "run" ∷ codes "--stack" ∷ codes "a" ∷ []) ≡ Some (run_stack 100000000 (codes "a" ∷ []))
runs_and_lists = refl

-- build a b -o i: the files are a and b, and the image's name is i
pub builds : command_of (codes "build" ∷ codes "a" ∷ codes "b" ∷ codes "-o" ∷ codes "i" ∷ []) ≡ Some (build (codes "a" ∷ codes "b" ∷ []) (codes "i"))
builds = refl

-- no files; no `-o`; an image whose name begins with `-`; two images
pub no_files : command_of (codes "build" ∷ codes "-o" ∷ codes "i" ∷ []) ≡ None
no_files = refl

pub no_option : command_of (codes "build" ∷ codes "a" ∷ codes "b" ∷ codes "i" ∷ []) ≡ None
no_option = refl

pub no_name : command_of (codes "build" ∷ codes "a" ∷ codes "-o" ∷ codes "-i" ∷ []) ≡ None
no_name = refl

pub two_names : command_of (codes "build" ∷ codes "a" ∷ codes "-o" ∷ codes "i" ∷ codes "j" ∷ []) ≡ None
two_names = refl

-- exec i
pub executes : command_of (codes "exec" ∷ codes "i" ∷ []) ≡ Some (exec 100000000 (codes "i"))
executes = refl

-- exec --steps 12 i
pub executes_within : command_of (codes "exec" ∷ codes "--steps" ∷ codes "12" ∷ codes "i" ∷ []) ≡ Some (exec 12 (codes "i"))
executes_within = refl

-- exec a b, and exec --steps 12
pub two_images : command_of (codes "exec" ∷ codes "a" ∷ codes "b" ∷ []) ≡ None
two_images = refl

pub no_image : command_of (codes "exec" ∷ codes "--steps" ∷ codes "12" ∷ []) ≡ None
no_image = refl

-- list i
pub lists : command_of (codes "list" ∷ codes "i" ∷ []) ≡ Some (list (codes "i"))
lists = refl

-- list, and other words
pub no_code : command_of (codes "list" ∷ []) ≡ None
no_code = refl

pub other_words : command_of (codes "--help" ∷ []) ≡ None
other_words = refl

-- gen 2147483647 007: the text is called `gen`
pub draws : command_of (codes "gen" ∷ codes "2147483647" ∷ codes "007" ∷ []) ≡ Some (generate 100000000 (codes "gen" ∷ []) 2147483647 7)
draws = refl

-- gen 0 10000
pub draws_most : command_of (codes "gen" ∷ codes "0" ∷ codes "10000" ∷ []) ≡ Some (generate 100000000 (codes "gen" ∷ []) 0 10000)
draws_most = refl

-- too great a seed; one of eleven digits; no words; too many words, and one of six digits
pub great_seed : command_of (codes "gen" ∷ codes "2147483648" ∷ codes "1" ∷ []) ≡ None
great_seed = refl

pub long_seed : command_of (codes "gen" ∷ codes "00000000001" ∷ codes "1" ∷ []) ≡ None
long_seed = refl

pub no_words : command_of (codes "gen" ∷ codes "1" ∷ codes "0" ∷ []) ≡ None
no_words = refl

pub many_words : command_of (codes "gen" ∷ codes "1" ∷ codes "10001" ∷ []) ≡ None
many_words = refl

pub long_count : command_of (codes "gen" ∷ codes "1" ∷ codes "000001" ∷ []) ≡ None
long_count = refl

-- a seed alone, and a file behind the words
pub no_count : command_of (codes "gen" ∷ codes "1" ∷ []) ≡ None
no_count = refl

pub one_word_more : command_of (codes "gen" ∷ codes "1" ∷ codes "1" ∷ codes "a" ∷ []) ≡ None
one_word_more = refl
