-- What a call names: its edition of AES-OTR, and in the third its form; and their numbers in a call (document 02, wishes 1 and 7).
use Rattle.std.specs.Prelude.{ℕ, zero, suc}
use Rattle.mode.specs.Form.{Form, Parallel, form_of}
-- AES-OTR v1 (source document 003), here with parallel data alone, and v3.1 (source document 000) in a form
pub use Rattle.mode.specs.declared.edition.Edition.{Edition}
pub use Rattle.mode.specs.declared.edition.Edition.TheVariants.{V1, V3}

-- 1 is v1, whose form check 8 holds to 0, and 3 is v3.1. No other number names an edition: check 10 refuses it, and no promise uses what
-- stands here for it.
abbrev pub edition_of : ℕ → ℕ → Edition
edition_of zero form = V3 (form_of form)
edition_of (suc zero) form = V1
edition_of (suc (suc n)) form = V3 (form_of form)

-- how the edition takes its data
abbrev pub form_in : Edition → Form
form_in V1 = Parallel
form_in (V3 f) = f
