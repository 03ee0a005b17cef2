-- How a call ends that has nothing to run or to judge.
use Rattle.std.specs.Prelude.{List, [], ◌∷◌, codes, decimal}
use Rattle.call_file.specs.Keys.{key_word}
use Rattle.house_base.specs.Answer.{reason_word}
use Rattle.house_base.specs.Text.{Text}
use Rattle.house_model.specs.Report.{line_of}
use Rattle.house_top.specs.declared.bad.Bad.{Bad}
use Rattle.house_top.specs.declared.bad.Bad.TheVariants as bad
use Rattle.house_top.specs.declared.status.Status.{Status}
use Rattle.house_top.specs.declared.status.Status.TheVariants as status
use Rattle.report_text.specs.BadFiles.{bad_key_words, bad_record_words, bad_toml_words}

-- the words of the line that says why a file is refused
abbrev pub bad_words : Bad → List Text
bad_words bad.Toml = bad_toml_words
bad_words (bad.Key key) = bad_key_words (key_word key)
bad_words (bad.Entry number) = bad_record_words number
bad_words (bad.Slip line) = codes "bad" ∷ codes "slip" ∷ decimal line ∷ []
bad_words (bad.Row row) = codes "bad" ∷ codes "row" ∷ decimal row ∷ []
bad_words (bad.Desk file line) = codes "bad" ∷ codes "desk" ∷ decimal file ∷ decimal line ∷ []
bad_words (bad.Leave line reason) = codes "bad" ∷ codes "withdraw" ∷ decimal line ∷ reason_word reason ∷ []

-- the text with which a call ends that has no run
abbrev pub text_without_run : Status → Text
text_without_run status.TooLong = line_of (codes "too-long" ∷ [])
text_without_run (status.BadFile why) = line_of (bad_words why)
text_without_run s = []
