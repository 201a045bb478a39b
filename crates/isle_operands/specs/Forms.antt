-- What contracts see of the code's forms.
use Rattle.isle_core.specs.Form.{Form}
use Rattle.isle_operands.specs.declared.forms.Form.{Form as CodeForm}

-- a form
abbrev pub form_seen : CodeForm → Form
form_seen f = record { ty = f.ty; variant = f.variant; fields = f.fields.now }
