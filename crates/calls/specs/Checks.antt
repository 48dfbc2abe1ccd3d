-- The refusals that all calls share, the first that applies: 3, then 1, then 2.
use Rattle.std.specs.Prelude.{ℕ, cond, List, ltb, length, Option, Some, None, Result, Ok, Err}
use Rattle.characters.specs.Utf8.{first_ill_formed}
use Rattle.calls.specs.declared.Refusal.{Refusal}
use Rattle.calls.specs.declared.Refusal.TheVariants.{Overlong, NotUtf8, Setting}
use Rattle.calls.specs.declared.Search.{Search}
use Rattle.calls.specs.declared.Settings.{Settings}
use Rattle.calls.specs.Refusals.{refusal_number, refusal_detail}
use Rattle.calls.specs.Settings.{is_setting, settings_of}

-- how many bytes a statement may have
abbrev pub longest : ℕ
longest = 65536

abbrev pub when_utf8 : Settings → Option ℕ → Result Settings Refusal
when_utf8 settings (Some place) = Err (NotUtf8 place)
when_utf8 settings None = Ok settings

unfoldable pub checked_text : Settings → List ℕ → Result Settings Refusal
checked_text settings s = cond (ltb longest (length s)) (Err (Overlong (length s))) (when_utf8 settings (first_ill_formed s))

unfoldable pub checked : ℕ → ℕ → ℕ → List ℕ → Result Settings Refusal
checked dialect joins named s = cond (is_setting dialect joins named) (checked_text (settings_of dialect joins named) s) (Err Setting)

-- the settings in what `check` answers
abbrev pub settings_found : Result Search Refusal → Result Settings Refusal
settings_found (Ok search) = Ok search.settings
settings_found (Err refusal) = Err refusal

-- what is made of the settings where the call is accepted, and of the refusal where it is not
abbrev pub accepted_or : {A : Type 0} → (Settings → A) → (Refusal → A) → Result Settings Refusal → A
accepted_or done turned (Ok settings) = done settings
accepted_or done turned (Err refusal) = turned refusal

-- the number that a call hands out, and the detail beside it, which is this where it is accepted
abbrev pub told_number : Result Settings Refusal → ℕ
told_number = accepted_or (λ settings. 0) refusal_number

abbrev pub told_detail : ℕ → Result Settings Refusal → ℕ
told_detail detail = accepted_or (λ settings. detail) refusal_detail
