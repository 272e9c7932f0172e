-- The two forms of associated data (source document 000, section 1.1), and their numbers in a call (document 02, wish 1).
use Rattle.std.specs.Prelude.{ℕ, zero, suc}
pub use Rattle.mode.specs.declared.edition.Form.{Form}
pub use Rattle.mode.specs.declared.edition.Form.TheVariants.{Parallel, Serial}

-- 0 is parallel, and 1 serial. A number above 1 names no form: check 8 refuses it, and no promise uses what stands here for it.
abbrev pub form_of : ℕ → Form
form_of zero = Parallel
form_of (suc n) = Serial
