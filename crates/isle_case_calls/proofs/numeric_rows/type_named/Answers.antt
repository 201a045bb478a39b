use Rattle.std.proofs.Common.{arith, refl}
use Rattle.isle_case_calls.proofs.numeric_rows.type_named.Goals as goal

pub returns-in-i16 : goal.returns-in-i16
returns-in-i16 c = (2, (omega arith), refl)

pub returns-in-u16 : goal.returns-in-u16
returns-in-u16 c = (3, (omega arith), refl)

pub returns-in-i32 : goal.returns-in-i32
returns-in-i32 c = (4, (omega arith), refl)

pub returns-in-u32 : goal.returns-in-u32
returns-in-u32 c = (5, (omega arith), refl)

pub returns-in-i64 : goal.returns-in-i64
returns-in-i64 c = (6, (omega arith), refl)

pub returns-in-u64 : goal.returns-in-u64
returns-in-u64 c = (7, (omega arith), refl)

pub returns-in-i128 : goal.returns-in-i128
returns-in-i128 c = (8, (omega arith), refl)
