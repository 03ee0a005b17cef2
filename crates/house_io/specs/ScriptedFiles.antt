-- Files in memory whose calls fail by a script.
use Rattle.std.specs.Prelude.{ℕ, Bool, true, false, List, Contains, Result, Ok, Err, refl}
use Rattle.std.specs.Coded.{Coded, code_by, coded×, coded_ℕ, coded_list}
use Rattle.std.specs.FinMap.{code, empty, insert}
use Rattle.house_io.specs.Faults.{next_count}
use Rattle.house_io.specs.Files.{Contents}
use Rattle.house_io.specs.declared.files.LoadFault.{LoadFault}
use Rattle.house_io.specs.declared.files.LoadFault.TheVariants.{Failed, Long, Memory}

-- the files, the numbers of the calls that fail, how many calls there were, and how many faults
pub record ScriptedFiles : Type 0 where
  pub files : Contents
  pub fails : List ℕ
  pub calls : ℕ
  pub faults : ℕ

-- stored as the tuple of its fields
abbrev pub coded_scripted_files : Coded ScriptedFiles
coded_scripted_files =
    code_by (Contents × (List ℕ × (ℕ × ℕ)))
    (coded× (code (coded_list coded_ℕ) (coded_list coded_ℕ)) (coded× (coded_list coded_ℕ) (coded× coded_ℕ coded_ℕ)))
    (λ s. (s.files, (s.fails, (s.calls, s.faults))))
    (λ p. record { files = p.0; fails = p.1.0; calls = p.1.1.0; faults = p.1.1.1 })
    (λ _. refl)

-- no file, and no call yet
abbrev pub no_files : List ℕ → ScriptedFiles
no_files fails = record { files = empty; fails = fails; calls = 0; faults = 0 }

-- the file under one name holds these bytes
abbrev pub with_file : ScriptedFiles → List ℕ → List ℕ → ScriptedFiles
with_file shelf name bytes = record shelf { files = insert shelf.files name bytes }

-- the script lets the next call fail
abbrev pub IsNextCallFailing : ScriptedFiles → Type 0
IsNextCallFailing shelf = Contains shelf.fails (next_count shelf.calls)

-- one more call
abbrev pub after_call : ScriptedFiles → ScriptedFiles
after_call shelf = record shelf { calls = next_count shelf.calls }

-- one more call, and one more fault
abbrev pub after_failed_call : ScriptedFiles → ScriptedFiles
after_failed_call shelf = record shelf { calls = next_count shelf.calls; faults = next_count shelf.faults }

-- whether a load answers that it failed
abbrev pub answers_failed : {T : Type 0} → Result T LoadFault → Bool
answers_failed (Ok bytes) = false
answers_failed (Err Failed) = true
answers_failed (Err Long) = false
answers_failed (Err Memory) = false
