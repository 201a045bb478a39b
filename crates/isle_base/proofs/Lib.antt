pub mod IdDerives
