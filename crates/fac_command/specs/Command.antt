-- The command lines of the tool.
use Rattle.std.specs.Prelude.{◌==◌, ◌+◌, ◌-◌, ◌*◌, ℕ, Bool, false, not, ◌&&◌, List, [], ◌∷◌, length, get_or, take, None, Some, codes, if◌then◌else◌, nat_le}
use Rattle.std.specs.declared.option.Option.{Option}
use Rattle.std.specs.List.{list_all}
use Rattle.std.specs.Str.{bytes_eq}
use Rattle.fac_base.specs.declared.limits.TheConstants.{TICKS, MOST_STEPS, MOST_STEPS_DIGITS}
use Rattle.fac_command.specs.declared.command.TheConstants.{MOST_SEED, MOST_SEED_DIGITS, MOST_WORDS, MOST_WORDS_DIGITS}

-- what a command line asks for, with its budget, the names of its files and that of its image; or with its budget, the one name of a text, a seed and how many words are drawn
pub data Command : Type 0 where
  check : List (List ℕ) → Command
  run : ℕ → List (List ℕ) → Command
  run_stack : ℕ → List (List ℕ) → Command
  build : List (List ℕ) → List ℕ → Command
  exec : ℕ → List ℕ → Command
  list : List ℕ → Command
  generate : ℕ → List (List ℕ) → ℕ → ℕ → Command

-- a file name: a word that isn't empty and doesn't begin with `-`
abbrev pub is_file_name : List ℕ → Bool
is_file_name [] = false
is_file_name (c ∷ cs) = not (c == 45)

-- FILES: one or more file names
abbrev pub are_files : List (List ℕ) → Bool
are_files [] = false
are_files (name ∷ names) = list_all is_file_name (name ∷ names)

-- the number that decimal digits write behind those of n; none, where one of these isn't a digit
abbrev pub number_behind : ℕ → List ℕ → Option ℕ
number_behind n [] = Some n
number_behind n (c ∷ cs) = (if nat_le 48 c && nat_le c 57 then number_behind (n * 10 + (c - 48)) cs else None)

-- a number of at most so much
abbrev pub at_most : ℕ → Option ℕ → Option ℕ
at_most most None = None
at_most most (Some n) = (if nat_le n most then Some n else None)

-- one to so many decimal digits of a number of at most so much
abbrev pub number_within : ℕ → ℕ → List ℕ → Option ℕ
number_within digits most word = (if nat_le 1 (length word) && nat_le (length word) digits then at_most most (number_behind 0 word) else None)

-- N: one to thirteen digits of a number of at most 1,000,000,000,000
abbrev pub steps_of : List ℕ → Option ℕ
steps_of word = number_within MOST_STEPS_DIGITS MOST_STEPS word

-- SEED: one to ten digits of a number below 2 ^ 31
abbrev pub seed_of : List ℕ → Option ℕ
seed_of word = number_within MOST_SEED_DIGITS MOST_SEED word

-- a number that isn't 0
abbrev pub some_number : Option ℕ → Option ℕ
some_number None = None
some_number (Some n) = (if nat_le 1 n then Some n else None)

-- WORDS: one to five digits of a number from 1 to 10,000
abbrev pub count_of : List ℕ → Option ℕ
count_of word = some_number (number_within MOST_WORDS_DIGITS MOST_WORDS word)

-- a command on FILES
abbrev pub on_files : (List (List ℕ) → Command) → List (List ℕ) → Option Command
on_files command files = (if are_files files then Some (command files) else None)

-- `run --steps N FILES`, by what N is
abbrev pub run_by : Option ℕ → List (List ℕ) → Option Command
run_by None files = None
run_by (Some steps) files = on_files (run steps) files

-- `run FILES` or `run --steps N FILES`, by what stands behind the first word
abbrev pub plain_run_of : List (List ℕ) → Option Command
plain_run_of [] = None
plain_run_of (file ∷ []) = on_files (run TICKS) (file ∷ [])
plain_run_of (word ∷ next ∷ words) = (if bytes_eq word (codes "--steps") then run_by (steps_of next) words else on_files (run TICKS) (word ∷ next ∷ words))

-- `run --stack FILES`, or one of these
abbrev pub run_of : List (List ℕ) → Option Command
run_of [] = None
run_of (word ∷ words) = (if bytes_eq word (codes "--stack") then on_files (run_stack TICKS) words else plain_run_of (word ∷ words))

-- `check FILES`, by what stands behind the first word
abbrev pub check_of : List (List ℕ) → Option Command
check_of files = on_files check files

-- `build FILES -o I`, by what stands behind the first word, where so many words stand before `-o`
abbrev pub build_before : ℕ → List (List ℕ) → Option Command
build_before count words = (if bytes_eq (get_or words count []) (codes "-o") && (is_file_name (get_or words (count + 1) []) && are_files (take count words)) then Some (build (take count words) (get_or words (count + 1) [])) else None)

abbrev pub build_of : List (List ℕ) → Option Command
build_of words = build_before (length words - 2) words

-- a command on the image of this name
abbrev pub on_image : (List ℕ → Command) → List ℕ → Option Command
on_image command name = (if is_file_name name then Some (command name) else None)

-- `exec --steps N I`, by what N is
abbrev pub exec_by : Option ℕ → List ℕ → Option Command
exec_by None name = None
exec_by (Some steps) name = on_image (exec steps) name

-- `exec I` or `exec --steps N I`, by what stands behind the first word
abbrev pub exec_of : List (List ℕ) → Option Command
exec_of (name ∷ []) = on_image (exec TICKS) name
exec_of (option ∷ number ∷ name ∷ []) = (if bytes_eq option (codes "--steps") then exec_by (steps_of number) name else None)
exec_of _ = None

-- `list I`, by what stands behind the first word
abbrev pub list_of : List (List ℕ) → Option Command
list_of (name ∷ []) = on_image list name
list_of _ = None

-- `gen SEED WORDS`, by what SEED and WORDS are, where the text has this name
abbrev pub generate_by : List (List ℕ) → Option ℕ → Option ℕ → Option Command
generate_by name None words = None
generate_by name (Some seed) None = None
generate_by name (Some seed) (Some words) = Some (generate TICKS name seed words)

-- the same by all words, of which the first is `gen`; it is the name of the text
abbrev pub generate_of : List (List ℕ) → Option Command
generate_of (word ∷ seed ∷ words ∷ []) = generate_by (word ∷ []) (seed_of seed) (count_of words)
generate_of _ = None

-- the command that the words ask for; every other list of words meets no form
abbrev pub command_of : List (List ℕ) → Option Command
command_of [] = None
command_of (word ∷ words) = (if bytes_eq word (codes "check") then check_of words else if bytes_eq word (codes "run") then run_of words else if bytes_eq word (codes "build") then build_of words else if bytes_eq word (codes "exec") then exec_of words else if bytes_eq word (codes "list") then list_of words else if bytes_eq word (codes "gen") then generate_of (word ∷ words) else None)

-- what a command line asks for: the listener, or a command
pub data Request : Type 0 where
  listen : Request
  work : Command → Request

abbrev pub work_of : Option Command → Option Request
work_of None = None
work_of (Some command) = Some (work command)

-- `listen` alone, or one of the commands
abbrev pub request_of : List (List ℕ) → Option Request
request_of (word ∷ []) = (if bytes_eq word (codes "listen") then Some listen else work_of (command_of (word ∷ [])))
request_of words = work_of (command_of words)

-- the names of the files of a command, or that of the text that it draws; those on an image have none
abbrev pub files_of : Command → List (List ℕ)
files_of (check files) = files
files_of (run steps files) = files
files_of (run_stack steps files) = files
files_of (build files image) = files
files_of (exec steps image) = []
files_of (list image) = []
files_of (generate steps name seed words) = name
