-- What the program says of itself.
use Rattle.std.specs.Prelude.{ℕ, List, ◌++◌, codes}

-- every form of line, with what it does and an example
unfoldable pub help_text : List ℕ
help_text =
    codes "isle: a code generator for ISLE, the language of instruction selectors\n\n" ++ (
    codes "  isle compile [OPTION..] NAME..\n      Compiles rule files and writes the Rust text of their terms.\n      isle compile examples/constants.isle\n" ++ (
    codes "  isle build [OPTION..] UNIT\n      Builds a unit: compiles its files and those that are made of tables, and writes the Rust text.\n      isle build opt\n" ++ (
    codes "  isle run [--trace] [OPTION..] SOURCE TERM VALUES [--answers FILE]\n      Runs the function of a term of a rule file at the values, and writes how it ends and what it calls.\n      FILE says what calls answer. SOURCE is a file, or unit: and a unit's name. --trace writes the text and\n      all calls.\n      isle run examples/calls.isle lower_sum '()' --answers examples/calls.answers\n" ++ (
    codes "  isle prelude KIND\n      Writes a prelude: rules, or Rust for them. KIND is numerics, numerics-rust, clif-opt, clif-lower,\n      assembler, assembler-rust, pulley or pulley-rust.\n      isle prelude clif-opt\n" ++ (
    codes "  isle units\n      Lists the units, each with its files.\n      isle units\n" ++ (
    codes "  isle isa TARGET\n      Writes the settings of a target.\n      isle isa x86\n" ++ (
    codes "  isle sample N\n      Compiles a sample of N terms, 1 to 10000, and writes how many functions, rules and matches it has.\n      isle sample 8\n" ++ (
    codes "  isle --help\n      Writes this text.\n      isle --help\n" ++ (
    codes "  isle --version\n      Writes the program's name and version.\n      isle --version\n\n" ++ (
    codes "OPTION is --no-allow, which leaves the pragmas out; --log, which puts a log line before each result; --prefix\n" ++ (
    codes "P=NAME, which prints NAME in place of P where the name of a file begins with it; --max-returns N, the length at\n" ++ (
    codes "which the list of a term that answers several times is full, 100 if none is given; or --split, which puts each\n" ++ (
    codes "match arm of such a term that has more steps than the N of --threshold N, 256 if none is given, into a closure.\nNo words mean: isle compile first.isle\n")))))))))))))

-- the program's name and version
unfoldable pub version_text : List ℕ
version_text = codes "isle 0.6.0\n"
